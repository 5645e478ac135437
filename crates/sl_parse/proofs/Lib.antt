pub mod SameKind
pub mod Names
pub mod Machine
pub mod Runs
pub mod TokenTests
pub mod Rules
pub mod ReadsArguments
pub mod ReadsExpr
pub mod ReadsBook
pub mod Agrees
pub mod AgreesExpr
pub mod AgreesBook
pub mod Late
pub mod OneTree
pub mod Stands
pub mod Loop
mod SpanFacts
mod TokenNumbers
