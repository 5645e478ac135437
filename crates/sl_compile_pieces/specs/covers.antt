-- The definitions of coverings over code.
pub mod Trees
pub mod Covering
