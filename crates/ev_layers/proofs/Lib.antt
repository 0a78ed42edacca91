pub mod Maps
pub mod Layered
pub mod Order
pub mod Steps
pub mod Covers
pub mod LengthLemmas
pub mod Numbered
