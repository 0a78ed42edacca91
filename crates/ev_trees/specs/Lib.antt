pub mod Trees
pub mod Scripts
pub mod Kept
