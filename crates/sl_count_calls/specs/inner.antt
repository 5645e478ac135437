-- Definitions that bodies and proofs alone cite.
pub mod Held
pub mod Texts
