pub mod AskLaws
pub mod AnswerLaws
pub mod ReplyLaws
pub mod ImageLaws
