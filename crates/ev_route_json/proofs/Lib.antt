pub mod Fields
pub mod Repeats
