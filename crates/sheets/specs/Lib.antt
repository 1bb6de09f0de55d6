pub mod ModelSheet
pub mod LentTables
pub mod Holding
