pub mod Promotion
pub mod Forgetting
pub mod Changes
pub mod Chains
pub mod Managers
pub mod Arrivals
pub mod Health
pub mod Worlds
