-- What words ask for, and how the program that counts ends.
pub mod Words
pub mod Exits
