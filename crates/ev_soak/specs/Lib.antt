pub mod Draws
pub mod Soak
pub mod Lines
