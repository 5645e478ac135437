-- The lemmas of arenas.
pub mod Pieces
pub mod Waiting
pub mod Peers
pub mod Taken
pub mod MethodArenas
pub mod Lots
pub mod Turns
pub mod TableEffects
