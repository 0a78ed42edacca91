pub mod RowLemmas
pub mod WorldLemmas
pub mod WaiterLemmas
pub mod MarkLemmas
