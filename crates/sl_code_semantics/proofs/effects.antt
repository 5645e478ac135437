-- What instructions do, in the terms of the definition, where they have what they need: one lemma for each way that a proof asks for.
pub mod Registers
pub mod Cursors
pub mod Table
pub mod Records
pub mod Framing
pub mod Storing
