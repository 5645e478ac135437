-- What only code and proofs cite: the proofs that `impl` blocks give for the laws of their traits, and how a ratio keeps a quotient.
pub mod QuotientLaws
pub mod EntryLaws
pub mod Kept
