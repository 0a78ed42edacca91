pub mod Commits
pub mod Seen
