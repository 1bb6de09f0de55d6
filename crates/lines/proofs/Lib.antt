pub mod LineLaws
pub mod PrintedLaws
pub mod LengthLaws
