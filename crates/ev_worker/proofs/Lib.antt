pub mod OpenLemmas
pub mod BatchLemmas
pub mod SettleLemmas
