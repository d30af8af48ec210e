pub mod Outcomes
pub mod DoneLaws
pub mod Refusals
