pub mod FloatLemmas
pub mod TreeLemmas
