-- How the values of this crate stand for the states of the semantics.
pub mod inner
