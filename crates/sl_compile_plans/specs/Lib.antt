-- The definitions of plans.
pub mod Trees
pub mod Meaning
pub mod Following
pub mod Achieves
pub mod Costs
pub mod Prices
pub mod Frames
pub mod Laid
pub mod Sums
pub mod Fine
