pub mod Replay
pub mod Sums
