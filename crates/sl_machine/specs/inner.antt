-- What bodies and proofs alone cite: a run on its way through a code.
pub mod Ways
pub mod Leading
pub mod UnderWay
