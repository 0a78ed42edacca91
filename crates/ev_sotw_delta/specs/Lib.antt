pub mod DeltaText
pub mod SameWorld
pub mod Watches
