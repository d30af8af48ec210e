pub mod Calls
pub mod Runs
