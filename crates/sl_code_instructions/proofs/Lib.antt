-- The lemmas of counting code.
pub mod Standing
