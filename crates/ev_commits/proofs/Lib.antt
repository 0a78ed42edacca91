pub mod CommitLemmas
pub mod TurnLemmas
pub mod UseLemmas
