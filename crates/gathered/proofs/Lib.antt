pub mod Writes
pub mod Runs
pub mod Hosts
