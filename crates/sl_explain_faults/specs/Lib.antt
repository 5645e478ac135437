-- The codes of legal faults, and of the faults of code files; what is said of a legal fault; and the winners of a scope.
pub mod Codes
pub mod Legal
pub mod Winners
