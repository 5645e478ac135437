-- The lemmas of the machine.
pub mod runs
