pub mod Fronts
pub mod Firsts
pub mod Patterns
pub mod Stars
pub mod InCase
pub mod ByPath
