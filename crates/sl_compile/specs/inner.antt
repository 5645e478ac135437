-- Definitions on which no call of the desk and no law rests.
pub mod Slots
pub mod Weakest
pub mod Earlier
pub mod Nodes
pub mod Codes
