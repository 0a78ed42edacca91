pub mod ListLemmas
pub mod MadeLemmas
pub mod FollowLemmas
