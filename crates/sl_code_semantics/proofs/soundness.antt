-- Accepted code is never stuck, and what it records fits.
pub mod Sets
pub mod TableLemmas
pub mod Keeping
pub mod KeptRegisters
pub mod KeptColumns
pub mod KeptCursors
pub mod KeptEntries
pub mod KeptTables
pub mod KeptRecords
pub mod Fitting
pub mod Soundness
