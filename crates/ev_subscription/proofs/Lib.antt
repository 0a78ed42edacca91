pub mod TextLemmas
pub mod HeldLemmas
pub mod KindLemmas
pub mod RequestLemmas
pub mod ResponseLemmas
pub mod UnwatchedLemmas
