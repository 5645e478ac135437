-- The definitions of plans over columns.
pub mod Columns
pub mod Trees
pub mod Laws
