pub mod Arcs
pub mod Words
