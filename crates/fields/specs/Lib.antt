pub mod Bits
pub mod Judging
pub mod Packing
pub mod Places
pub mod Refusals
