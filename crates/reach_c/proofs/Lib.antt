pub mod AnswerOnlyLaws
pub mod FindAnswerLaws
