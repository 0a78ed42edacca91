pub mod Left
pub mod Brought
