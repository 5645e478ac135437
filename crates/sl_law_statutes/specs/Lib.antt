-- The statutes of the library: their trees, and what follows for them.
pub mod Trees
pub mod Statutes
pub mod Houses
pub mod Parties
pub mod Lists
pub mod Overhang
pub mod Majorities
pub mod Grown
pub mod Unseated
pub mod Best
