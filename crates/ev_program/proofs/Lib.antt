pub mod AnswerLemmas
pub mod CompleteLemmas
pub mod OneCommand
