pub mod WordLaws
pub mod ArcLaws
