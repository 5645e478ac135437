-- What only bodies and proofs cite.
pub mod Comparing
pub mod Digested
pub mod Outcomes
pub mod Reports
pub mod Statutes
pub mod Steps
pub mod Totals
