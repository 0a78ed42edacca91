pub mod History
pub mod Rule
pub mod Held
pub mod Words
pub mod Inner
pub mod Lent
