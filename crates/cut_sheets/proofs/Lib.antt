pub mod CutPartLaws
pub mod CutRoundLaws
pub mod CutSheetLaws
pub mod JudgeLaws
