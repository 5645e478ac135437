pub mod Stages
pub mod HeldStages
pub mod inner
