mod LineLemmas
mod PairLemmas
mod TemplateLemmas
mod OnceLemmas
mod HostLemmas
mod OrderLemmas
mod AnswerLemmas
mod WaitingLemmas
mod ProgressLemmas
mod StateLemmas
pub mod ShallowLemmas
pub mod WrittenLemmas
pub mod ResolveLemmas
pub mod ListLemmas
pub mod AnsweredLemmas
pub mod DueLemmas
pub mod TextLemmas
pub mod RunOrderLemmas
pub mod EntryLemmas
pub mod NameLemmas
pub mod MakerLemmas
pub mod GuardLemmas
pub mod WatchLemmas
pub mod StreamLemmas
pub mod PlaceLemmas
pub mod KeptLemmas
pub mod RunLemmas
pub mod LastLemmas
pub mod CountLemmas
pub mod EndpointLemmas
pub mod HostRunLemmas
pub mod LawLemmas
