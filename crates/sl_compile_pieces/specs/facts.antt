-- The definitions of a rulebook's facts over code.
pub mod Trees
pub mod Laws
