pub mod DoneLaws
pub mod Refusals
pub mod Outcomes
