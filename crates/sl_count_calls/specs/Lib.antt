-- What inputs come to.
pub mod Outcomes
pub mod Judged
pub mod Fitting
pub mod Reading
-- What is written of it.
pub mod Counting
pub mod Steps
pub mod Showing
pub mod Reports
pub mod Shows
pub mod Views
pub mod Suiting
pub mod inner
