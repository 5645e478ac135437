pub mod Spans
pub mod Words
pub mod Grammar
pub mod Faults
pub mod Parsing
pub mod inner
