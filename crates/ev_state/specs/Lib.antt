pub mod InitTargets
pub mod Ages
pub mod Known
pub mod States
pub mod Moves
pub mod Retirements
pub mod Changed
