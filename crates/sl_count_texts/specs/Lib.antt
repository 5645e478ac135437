pub mod Lines
pub mod Short
pub mod Faults
pub mod Orders
pub mod Bounds
pub mod Steps
pub mod inner
