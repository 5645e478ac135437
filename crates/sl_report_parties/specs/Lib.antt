-- What returns and a seat table say of parties, Länder and constituencies, as numbers.
pub mod Sums
pub mod Parts
pub mod Lacking
pub mod Seats
pub mod Cells
pub mod Ranks
pub mod Earlier
pub mod Press
pub mod inner
