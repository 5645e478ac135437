-- What the definitions of kinds imply.
pub mod Passing
pub mod Kinded
pub mod PieceFacts
pub mod RegisterSets
