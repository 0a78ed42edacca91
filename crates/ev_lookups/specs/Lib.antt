pub mod Keys
pub mod Lives
pub mod Mentions
