-- Lemmas of certificates.
pub mod Lowered
pub mod Tests
pub mod Cuts
pub mod Choices
pub mod CutLaws
pub mod Splits
pub mod Growths
pub mod GrowthAwards
pub mod Scopes
pub mod Outcomes
pub mod Meant
pub mod Divisors
