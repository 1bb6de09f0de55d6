pub mod RowLaws
pub mod RunningLaws
pub mod CountLaws
