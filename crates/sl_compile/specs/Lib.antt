-- The code of a whole rulebook, what it comes to, and what no public contract cites.
pub mod Conditions
pub mod Codes
pub mod Compiled
pub mod Laws
pub mod inner
