pub mod Reported
pub mod Spread
