-- What a step of the program leads to, with its records or without them.
pub mod Idle
pub mod Unrecorded
pub mod Ways
pub mod UnderWay
pub mod Leading
