pub mod Changes
pub mod Chosen
pub mod Tables
pub mod Kept
pub mod Touched
