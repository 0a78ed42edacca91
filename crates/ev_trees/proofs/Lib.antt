pub mod DepthLemmas
pub mod FeedLemmas
pub mod BackLemmas
pub mod LineLemmas
pub mod LimitLemmas
pub mod MoveLemmas
pub mod ScriptLemmas
