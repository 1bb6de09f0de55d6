pub mod CutWritingLaws
