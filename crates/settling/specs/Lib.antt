pub mod Ways
pub mod Turns
pub mod Coded
