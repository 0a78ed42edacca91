pub mod Grouped
pub mod Began
pub mod Walks
