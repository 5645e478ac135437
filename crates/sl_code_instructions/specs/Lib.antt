-- The definitions of counting code.
pub mod Codes
pub mod Numbers
pub mod Rows
pub mod Proper
pub mod Standing
