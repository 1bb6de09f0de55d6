pub mod Counts
pub mod Running
