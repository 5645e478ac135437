-- Lemmas on well-formed rulebooks.
pub mod TestLists
pub mod NodeLaws
pub mod TypedExpressions
