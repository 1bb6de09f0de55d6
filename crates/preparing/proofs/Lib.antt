pub mod PreparingLaws
pub mod WholeLaws
