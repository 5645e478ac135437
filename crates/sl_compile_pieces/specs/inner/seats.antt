-- Of seats: what no call of the desk and no law rests on.
pub mod Filling
pub mod Seated
pub mod Seating
pub mod Summing
