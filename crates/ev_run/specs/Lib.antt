pub mod Left
pub mod Acting
pub mod Laws
pub mod Playing
