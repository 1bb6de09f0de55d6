pub mod AnswerLaws
pub mod AskingLaws
pub mod ListLaws
pub mod QuestionLaws
pub mod StateLaws
pub mod PartLaws
