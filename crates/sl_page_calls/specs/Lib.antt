-- What is handed over.
pub mod Asking
