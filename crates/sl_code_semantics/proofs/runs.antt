-- One step of a run, and pieces of runs.
pub mod Stepping
pub mod Coming
