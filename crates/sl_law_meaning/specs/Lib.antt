pub mod book
pub mod returns
pub mod methods
pub mod meaning
pub mod laws
