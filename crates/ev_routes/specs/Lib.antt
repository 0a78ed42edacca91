pub mod Domains
pub mod Paths
pub mod Indexed
pub mod Requests
