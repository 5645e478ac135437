-- What bodies and proofs alone cite: how the machine's values stand for those of the definitions.
pub mod Ends
pub mod Stores
pub mod Columns
pub mod Positions
pub mod CellCursors
pub mod Recording
pub mod Memories
pub mod Leaving
pub mod Lots
pub mod Tables
