pub mod RunOutputs
pub mod Order
pub mod Delivering
pub mod OneOutput
pub mod OneVerdict
pub mod CodeFiles
pub mod CodeLengths
pub mod RunIsCount
