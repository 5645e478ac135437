pub mod Steps
pub mod Short
pub mod SeatSums
pub mod Taking
pub mod ContestSteps
pub mod PressSteps
pub mod LackingSteps
pub mod WinnerPlaces
