pub mod Words
pub mod Trees
pub mod Reading
pub mod Journals
pub mod OneJournal
