-- Certificates of the elections, and that their returns are returns.
pub mod Returns
pub mod Bundestag
pub mod Small
