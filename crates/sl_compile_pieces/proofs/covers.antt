-- The lemmas of coverings over code.
pub mod Pairs
pub mod Singles
pub mod Winners
pub mod Seatable
pub mod Contested
pub mod Numbers
pub mod Uncontested
pub mod Entering
pub mod Seeing
pub mod Fitting
pub mod Chosen
pub mod Seats
pub mod Ties
pub mod Pair
pub mod Decided
pub mod Covering
