pub mod Rendering
pub mod Rows
pub mod Pieces
