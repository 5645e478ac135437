-- The command line: its commands and words, what they ask for, and what is answered to words.
pub mod Commands
pub mod Requests
pub mod Answers
pub mod inner
