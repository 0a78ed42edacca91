pub mod Layers
pub mod Rows
pub mod Kept
