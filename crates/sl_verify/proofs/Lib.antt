-- The lemmas of the verifier.
pub mod Walking
pub mod Rows
