-- The definitions of expressions over code.
pub mod Slots
pub mod Pieces
pub mod Meaning
pub mod Stages
