pub mod DrawLemmas
pub mod NameLemmas
pub mod SoakLemmas
