pub mod AnswerLemmas
pub mod ReplyLemmas
pub mod StepLemmas
