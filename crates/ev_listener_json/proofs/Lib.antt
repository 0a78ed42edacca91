pub mod Unions
pub mod Present
pub mod Leasts
pub mod Overlaps
pub mod CollisionLemmas
pub mod PlaceLemmas
pub mod FrameLemmas
