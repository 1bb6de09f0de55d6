pub mod CutListLaws
pub mod FromLaws
pub mod LookLaws
pub mod ModelLaws
pub mod RefineLaws
