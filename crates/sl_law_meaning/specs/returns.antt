-- What returns are, and what is read off them.
pub mod Votes
pub mod Election
pub mod Facts
