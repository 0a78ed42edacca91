pub mod Known
pub mod LineLemmas
pub mod FaultLemmas
pub mod GrowLemmas
pub mod ReadLemmas
pub mod AnswerLemmas
