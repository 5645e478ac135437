-- The lemmas of facts over code.
pub mod Counts
pub mod Holding
pub mod Cells
pub mod Loops
pub mod Winners
pub mod Facts
pub mod Votes
pub mod Eligible
