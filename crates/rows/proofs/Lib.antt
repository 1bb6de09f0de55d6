pub mod FillLaws
pub mod LentLaws
pub mod RowRunLaws
