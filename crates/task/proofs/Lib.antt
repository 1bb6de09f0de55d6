pub mod LoopLaws
pub mod RangeLaws
pub mod TaskLaws
pub mod TableLaws
