pub mod Example
pub mod Unseen
