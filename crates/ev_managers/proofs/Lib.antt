pub mod EndLemmas
pub mod RetiredLemmas
