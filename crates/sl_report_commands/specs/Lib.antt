-- What the commands that report answer.
pub mod Statuses
pub mod Reports
pub mod Compared
pub mod Methods
pub mod Summaries
pub mod Digests
pub mod Written
pub mod inner
