-- Certificates: seats and cuts, scope by scope, and what they show of a count.
pub mod Cuts
pub mod Awards
pub mod Outcomes
pub mod Laws
