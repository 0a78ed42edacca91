pub mod Elements
pub mod Numerals
pub mod Names
pub mod Units
pub mod Outcomes
pub mod Leasts
pub mod Unions
pub mod FloatLemmas
