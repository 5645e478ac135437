-- Worked scopes and small elections, with what they come to; what fails, in small numbers.
pub mod Examples
pub mod SmallElections
pub mod MeaningExamples
pub mod ScopeExamples
pub mod LawExample
pub mod Failures
pub mod VotesThatCost
pub mod Joined
pub mod ByHand
pub mod WinnersAbove
pub mod Growing
pub mod Measures
pub mod Tables
