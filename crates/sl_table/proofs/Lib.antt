pub mod Pieces
pub mod Cells
pub mod SeatedWinners
pub mod HeldTables
pub mod EntryLines
pub mod StageSlots
