-- The definitions of awards over code.
pub mod Trees
