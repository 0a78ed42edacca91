pub mod GrowLemmas
pub mod InPlace
pub mod ScriptFaults
pub mod UpTo
pub mod Joined
pub mod AnswerLemmas
