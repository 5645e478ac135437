pub mod Units
pub mod Elections
pub mod FactReadings
pub mod typing
pub mod methods
pub mod meaning
