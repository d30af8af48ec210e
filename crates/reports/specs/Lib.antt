pub mod Counts
pub mod Report
pub mod Stored
