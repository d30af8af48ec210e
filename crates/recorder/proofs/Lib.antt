pub mod SweepLaws
pub mod Recorded
pub mod Outcomes
