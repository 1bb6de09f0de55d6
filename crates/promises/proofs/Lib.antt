pub mod RowTies
