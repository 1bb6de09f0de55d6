pub mod Entries
pub mod ReplayEntry
