pub mod Loops
pub mod Sizes
pub mod Task
pub mod Tables
