pub mod Refusals
pub mod Flaws
pub mod FlawLaws
pub mod Answers
pub mod Examples
