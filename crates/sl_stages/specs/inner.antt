-- How values of the program keep what the definitions speak of; no definition cites these.
pub mod Cells
pub mod Kept
