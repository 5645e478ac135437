-- The definitions of a scope's seats over code.
pub mod Slots
pub mod Trees
