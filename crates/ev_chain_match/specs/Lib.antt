pub mod RangeCriteria
pub mod Unnarrowed
pub mod Wanted
