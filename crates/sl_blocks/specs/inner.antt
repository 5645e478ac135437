-- Definitions on which no call of the desk and no law rests.
pub mod Jobs
pub mod Covers
pub mod Few
pub mod Layout
pub mod LayoutParts
pub mod Given
