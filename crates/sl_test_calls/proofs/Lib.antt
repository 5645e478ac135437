-- The lemmas of tests of blocks.
pub mod Jobs
