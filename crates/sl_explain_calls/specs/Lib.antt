-- Of which fault an explanation is.
pub mod Codes
-- Where explanations point.
pub mod Places
