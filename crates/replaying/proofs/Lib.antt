pub mod JoinLaws
pub mod ReplayingLaws
pub mod RowsLaws
