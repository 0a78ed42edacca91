pub mod Audits
pub mod Texts
