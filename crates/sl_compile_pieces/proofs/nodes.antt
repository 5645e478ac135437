-- The lemmas of splits and growths over code.
pub mod Added
pub mod JoiningLists
pub mod Columns
pub mod Joining
pub mod Arguments
pub mod OneScope
pub mod SplitScopes
pub mod Meeting
pub mod Found
pub mod SearchScope
pub mod SearchSeats
pub mod Search
pub mod Houses
pub mod GrowthScopes
pub mod Nodes
