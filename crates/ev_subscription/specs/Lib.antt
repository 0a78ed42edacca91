pub mod Held
pub mod KeyOrder
pub mod Subscriptions
pub mod Texts
pub mod Asked
pub mod Sets
