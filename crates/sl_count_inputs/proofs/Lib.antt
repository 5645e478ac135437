pub mod Reading
pub mod Writing
pub mod BookFacts
pub mod StageNames
