-- The margins of an allocation: missing votes, decimal numbers, and divisors of few digits.
pub mod MissingVotes
pub mod VotesToSpare
pub mod Swings
pub mod Decimals
pub mod Divisors
pub mod Laws
pub mod inner
