pub mod Session
pub mod Recorded
