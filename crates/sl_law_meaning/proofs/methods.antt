-- Lemmas on the methods of apportionment.
pub mod SeatSums
pub mod RaisedSeats
pub mod ListedEntries
pub mod OneBatch
pub mod TieLaw
pub mod DrawnLots
pub mod ChoiceLaw
pub mod ManyBatches
pub mod StepLaw
pub mod LadderProofs
pub mod WalkProofs
pub mod DivisorProofs
pub mod HamiltonProofs
pub mod CoveringProofs
pub mod GrowthProofs
pub mod HouseProofs
pub mod BoundsProofs
