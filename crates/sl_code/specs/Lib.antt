-- The definitions of code files.
pub mod Operands
pub mod Spelling
pub mod Listing
pub mod Faults
pub mod Reading
pub mod Laws
