-- The definitions of arenas.
pub mod Arenas
pub mod Laws
pub mod Effects
