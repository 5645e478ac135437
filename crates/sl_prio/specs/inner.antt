-- What the bodies and proofs of this crate cite in addition to the definitions.
pub mod Taken
pub mod Heap
pub mod Marks
