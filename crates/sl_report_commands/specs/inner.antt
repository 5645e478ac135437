-- Definitions that bodies and proofs alone cite.
pub mod Digested
