pub mod Managers
pub mod Moved
