pub mod MarkLemmas
pub mod ChosenLemmas
pub mod PlaceLemmas
pub mod PriorityLemmas
