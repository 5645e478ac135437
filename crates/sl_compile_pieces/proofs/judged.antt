-- What is found of the plans by evaluation: that the verifier passes them, that their operands fit, and what they cost.
pub mod Roles
pub mod Splits
pub mod Growths
pub mod Covers
pub mod Columns
pub mod SmallPlans
