-- The definitions of a book's last clause over code.
pub mod Trees
pub mod Closing
