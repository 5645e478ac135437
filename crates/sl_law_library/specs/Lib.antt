-- What trees the texts of the library have, what is counted by its names, and votes missing in a whole count.
pub mod Texts
pub mod Names
pub mod Counts
