-- Lots and peers: what the program reads of lots and takes off its table.
pub mod LotLists
pub mod Drawing
pub mod PeerLists
pub mod Passing
