-- What only bodies and proofs cite.
pub mod Winners
pub mod PartySeats
pub mod Contests
