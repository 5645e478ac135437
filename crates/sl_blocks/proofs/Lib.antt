-- The lemmas of blocks.
pub mod FineFacts
pub mod Standing
pub mod JobSlots
pub mod Meaning
pub mod MakingPlans
pub mod MakingBlocks
pub mod MakingCovers
pub mod FactPlans
pub mod Laid
pub mod LaidBlocks
