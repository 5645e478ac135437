-- The lemmas of walks over scopes and entries.
pub mod Pieces
pub mod Walking
pub mod Forms
pub mod Rising
pub mod Scopes
pub mod Staying
pub mod Sums
