pub mod Gained
pub mod RowsMade
pub mod ClusterMade
