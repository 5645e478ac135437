-- What only bodies and proofs cite.
pub mod Within
pub mod Tables
pub mod Common
pub mod Drawn
pub mod MoreScopes
