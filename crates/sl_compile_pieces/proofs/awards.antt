-- The lemmas of awards over code.
pub mod Turns
pub mod Batches
pub mod WholeBatches
pub mod LastBatch
pub mod Awards
