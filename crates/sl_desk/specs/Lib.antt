pub mod Checking
pub mod Compiling
pub mod Endings
pub mod Running
pub mod JudgedRuns
pub mod Laws
