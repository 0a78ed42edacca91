pub mod LineLemmas
pub mod ToldLemmas
pub mod FrontLemmas
pub mod FloatLemmas
pub mod AlikeLemmas
pub mod PrefixLemmas
pub mod StepLemmas
