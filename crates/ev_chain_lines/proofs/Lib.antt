pub mod FloatLemmas
pub mod TextLemmas
pub mod InputLemmas
