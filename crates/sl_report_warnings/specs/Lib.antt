-- What is warned of, what a warning says, and how it is written.
pub mod Heads
pub mod Sentences
pub mod Warnings
