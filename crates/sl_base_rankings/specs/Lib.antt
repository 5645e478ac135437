pub mod Ranking
pub mod Peers
pub mod Lot
pub mod Laws
