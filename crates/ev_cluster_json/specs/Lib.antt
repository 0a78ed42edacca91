pub mod Assignments
pub mod Clusters
pub mod Made
pub mod Tallies
pub mod Sockets
