-- What only bodies and proofs cite.
pub mod Local
pub mod Seen
pub mod SeatsBy
pub mod Seated
