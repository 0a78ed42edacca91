pub mod ReferenceLemmas
