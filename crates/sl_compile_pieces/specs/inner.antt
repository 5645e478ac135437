-- Definitions on which no call of the desk and no law rests.
pub mod awards
pub mod nodes
pub mod scopes
pub mod seats
