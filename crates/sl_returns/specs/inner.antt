-- Definitions on which no call of the desk and no law rests.
pub mod LotKeys
pub mod Building
pub mod Indexed
pub mod Joining
pub mod Lots
pub mod Sifting
pub mod Texts
