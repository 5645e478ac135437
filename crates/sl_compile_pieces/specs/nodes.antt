-- The definitions of splits and growths over code.
pub mod Trees
pub mod Scopes
pub mod Nodes
