pub mod Scans
pub mod Marks
pub mod LocatedCells
