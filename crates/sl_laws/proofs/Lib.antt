pub mod Statutes
