pub mod CutPart
pub mod CutSheet
pub mod Judged
