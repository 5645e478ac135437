-- The lemmas of the compiler.
pub mod rulebooks
pub mod Places
pub mod Easier
pub mod Levels
pub mod Jobs
pub mod Walks
pub mod Arguments
pub mod Arms
pub mod Stands
pub mod Wholes
pub mod Found
pub mod Splits
pub mod Books
