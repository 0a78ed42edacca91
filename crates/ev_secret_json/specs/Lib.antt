pub mod References
pub mod SecretConfigs
pub mod TlsContexts
pub mod TransportSockets
pub mod Extensions
pub mod Resources
