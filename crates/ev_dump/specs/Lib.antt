pub mod Told
pub mod Fronts
pub mod Texts
pub mod Dumps
