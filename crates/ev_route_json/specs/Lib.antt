pub mod Presence
pub mod Targets
pub mod Matches
pub mod Conditions
pub mod Routes
pub mod Domains
pub mod Tables
pub mod Given
