pub mod Limits
pub mod Height
pub mod Places
pub mod Refused
pub mod Outcomes
