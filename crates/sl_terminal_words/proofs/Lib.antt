-- Lemmas on what is given to a command, and on the program that is built up.
pub mod Matched
pub mod Reporting
pub mod Programs
pub mod Places
pub mod PlacesFaults
pub mod Simple
pub mod Told
pub mod Examples
