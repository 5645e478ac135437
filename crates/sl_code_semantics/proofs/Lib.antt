-- The lemmas of the semantics.
pub mod kinds
pub mod soundness
pub mod effects
pub mod runs
pub mod drawing
