pub mod Finding
pub mod Failing
pub mod Walking
pub mod Within
