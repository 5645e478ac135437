-- The texts, cut and read by functions that compute; the proofs of names and of votes missing.
pub mod Cutting
pub mod Texts
pub mod Names
pub mod Counts
pub mod MissingVotes
