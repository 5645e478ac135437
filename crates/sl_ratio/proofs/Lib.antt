pub mod Firsts
pub mod Searches
pub mod Rounding
pub mod LawProofs
