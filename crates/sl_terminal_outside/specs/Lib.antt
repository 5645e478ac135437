pub mod Inputs
pub mod Shelves
