-- The methods of apportionment: allocations, ties, growths and steps.
pub mod Field
pub mod Allocations
pub mod Hamilton
pub mod Covering
pub mod Ties
pub mod LeastHouse
pub mod Steps
