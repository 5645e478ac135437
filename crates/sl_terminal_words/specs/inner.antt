-- What only bodies and proofs cite: the steps by which the program is built and its matches are read.
pub mod Rules
pub mod Replies
