-- What the definitions imply: the statements of the laws.
pub mod LimitLaws
pub mod BookLaws
pub mod ReturnsLaws
pub mod Ladders
pub mod MethodLaws
pub mod Awards
pub mod Walks
pub mod EqualBounds
pub mod MeaningLaws
pub mod ColumnLaws
pub mod OneLaws
