pub mod Pictures
pub mod Aside
pub mod Asking
pub mod Closing
pub mod Holders
pub mod Lines
pub mod Retiring
pub mod Worlds
