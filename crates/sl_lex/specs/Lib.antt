pub mod Keywords
pub mod Pieces
pub mod Spans
pub mod Tokens
pub mod inner
