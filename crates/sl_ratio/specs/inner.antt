-- What only code and proofs cite: the steps of a search.
pub mod Picks
