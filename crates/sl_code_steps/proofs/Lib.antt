-- The lemmas of the steps.
pub mod Priorities
pub mod Dropping
pub mod stores
pub mod drawing
