pub mod RunEntryLaws
pub mod WholeLaws
pub mod AskEntryLaws
pub mod ReplayEntryLaws
