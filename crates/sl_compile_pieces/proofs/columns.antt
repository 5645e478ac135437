-- The lemmas of plans over columns.
pub mod Cells
pub mod Writing
pub mod Sums
