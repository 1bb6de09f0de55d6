pub mod TraceLaws
pub mod FlawLaws
pub mod RunLaws
pub mod RunRightLaws
pub mod LengthLaws
