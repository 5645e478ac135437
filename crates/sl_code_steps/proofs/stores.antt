-- How the program's store stands for states: its cells, its columns at the start and at the end.
pub mod Bounds
pub mod Cells
pub mod Inputs
pub mod Starting
pub mod Leavings
pub mod Holding
