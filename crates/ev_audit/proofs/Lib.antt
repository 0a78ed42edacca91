pub mod WalkLemmas
pub mod LegalLemmas
pub mod TextLemmas
