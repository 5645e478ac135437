-- The lemmas of a last clause over code.
pub mod Rules
pub mod Cells
pub mod Bases
pub mod Seated
pub mod Kept
pub mod Covered
pub mod Vacancies
pub mod Tables
pub mod Closings
