-- The definitions of the checker.
pub mod Drawn
pub mod Names
pub mod inner
