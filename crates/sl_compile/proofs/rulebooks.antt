-- The lemmas of whole rulebooks over code: what the blocks of a book cost, what they keep, and what they come to.
pub mod Wanted
pub mod Known
pub mod Rows
pub mod CostsOfBooks
pub mod Costs
pub mod Sizes
pub mod Slots
pub mod Told
pub mod Facts
pub mod Runs
pub mod Ends
pub mod Outcomes
pub mod KindsOfBooks
pub mod Books
pub mod StageColumns
pub mod Proper
