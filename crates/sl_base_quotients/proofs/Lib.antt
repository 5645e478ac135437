pub mod NameLists
pub mod Order
pub mod WholeParts
