-- What only bodies and proofs cite: the steps of the searches.
pub mod Needed
pub mod Kept
pub mod Filled
pub mod Minima
pub mod Claims
pub mod Units
