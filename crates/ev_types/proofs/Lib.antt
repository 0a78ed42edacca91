pub mod HostLemmas
pub mod IpLemmas
pub mod DecimalLemmas
