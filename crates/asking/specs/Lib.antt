pub mod Question
pub mod Posing
