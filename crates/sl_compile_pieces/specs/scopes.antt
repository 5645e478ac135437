-- The definitions of walks over scopes and entries.
pub mod Forms
pub mod Scopes
pub mod Sums
