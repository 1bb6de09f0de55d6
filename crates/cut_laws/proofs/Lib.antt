pub mod Ten
pub mod Refusals
pub mod CutsBack
pub mod Examples
pub mod FirstPlaces
