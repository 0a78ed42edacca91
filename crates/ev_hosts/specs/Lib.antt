pub mod Bits
pub mod Chosen
