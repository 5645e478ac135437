-- The codes of the faults of returns.
pub mod Codes
-- Where explanations point.
pub mod Places
