-- Of awards: what no call of the desk and no law rests on.
pub mod Awards
pub mod Batches
