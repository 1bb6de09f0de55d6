pub mod Blocks
pub mod Flat
pub mod Masks
