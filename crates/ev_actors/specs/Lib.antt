pub mod Passes
pub mod Journals
pub mod Working
pub mod Taken
pub mod Resting
