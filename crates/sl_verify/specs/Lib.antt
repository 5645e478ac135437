-- The laws of the verifier.
pub mod Laws
