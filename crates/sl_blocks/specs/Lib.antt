-- The definitions of blocks.
pub mod Blocks
pub mod PlanBlocks
pub mod Facts
pub mod inner
