pub mod Batches
pub mod Members
pub mod Workers
