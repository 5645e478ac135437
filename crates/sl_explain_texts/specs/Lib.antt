-- The codes of faults, languages, messages and their holes, how an explanation begins and what stays of it, lists that are filled, the lines of a text, and words for sums.
pub mod Codes
pub mod Explainers
pub mod Gains
pub mod Heads
pub mod Languages
pub mod Lines
pub mod Messages
pub mod Pages
pub mod Shown
pub mod Sums
