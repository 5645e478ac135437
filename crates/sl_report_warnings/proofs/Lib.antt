pub mod Finding
pub mod Pieces
