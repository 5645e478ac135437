pub mod Beginnings
pub mod Characters
pub mod Going
pub mod LeftOut
