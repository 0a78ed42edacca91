pub mod Retired
pub mod Waiters
pub mod Notes
pub mod Worlds
