pub mod OrderLaws
pub mod PigeonLaws
pub mod LeastLaws
pub mod TableLaws
pub mod EstimateLaws
