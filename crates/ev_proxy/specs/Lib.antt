pub mod Proxies
pub mod Changing
