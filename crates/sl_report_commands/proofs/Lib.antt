pub mod Digested
pub mod SameLimits
pub mod OneSet
