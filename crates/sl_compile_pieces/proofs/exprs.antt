-- The lemmas of expressions over code.
pub mod StageRules
pub mod Following
pub mod Places
pub mod Arguments
pub mod Leaves
pub mod Sums
pub mod Nodes
pub mod Levels
pub mod Expressions
pub mod Stages
