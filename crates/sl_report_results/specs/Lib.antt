-- What a count says of its stages, as numbers.
pub mod Fractions
pub mod Values
pub mod Places
pub mod Lots
pub mod Scopes
pub mod StageScopes
pub mod inner
