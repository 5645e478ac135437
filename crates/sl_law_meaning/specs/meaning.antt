-- What a rulebook means on returns.
pub mod Tables
pub mod Columns
pub mod Scopes
pub mod Lots
pub mod Records
pub mod Splits
pub mod Results
pub mod Expressions
pub mod Seating
pub mod PlainBooks
pub mod Means
pub mod Counts
