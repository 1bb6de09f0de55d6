pub mod CutWriting
