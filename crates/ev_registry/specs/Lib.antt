pub mod Registries
pub mod Pasts
pub mod Views
