-- The codes of the faults of rulebooks, the characters of a text, how a rulebook may begin, and the further faults of one.
pub mod Beginnings
pub mod Characters
pub mod Codes
pub mod Further
