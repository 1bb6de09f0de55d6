pub mod Refusals
pub mod Rows
pub mod RowsLaws
pub mod Examples
