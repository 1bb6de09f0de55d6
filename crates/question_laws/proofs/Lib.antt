pub mod Refusals
pub mod Estimates
pub mod Examples
