pub mod RequestLemmas
pub mod BodyLemmas
mod ResponseLemmas
pub mod LeastLemmas
