-- What a rulebook is: its tree, its limits and the tests of a well-formed one.
pub mod Trees
pub mod Limits
pub mod Books
pub mod Typing
pub mod HasType
