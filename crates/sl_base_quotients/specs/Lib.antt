pub mod Quotient
pub mod Signpost
pub mod Entry
pub mod Bounds
pub mod Names
pub mod inner
