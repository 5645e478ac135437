pub mod Lines
pub mod Characters
pub mod Firsts
pub mod Marks
pub mod Pieces
pub mod Holes
