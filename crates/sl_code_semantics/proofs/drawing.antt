-- Lots draw as the meaning's do.
pub mod LotOrder
pub mod LotProofs
pub mod LotDraws
