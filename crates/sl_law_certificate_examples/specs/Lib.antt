-- Elections whose outcomes are proved by certificates.
pub mod Returns
pub mod Bundestag
pub mod Small
