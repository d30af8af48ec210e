pub mod FlakeLaws
pub mod ChangeLaws
pub mod Outcomes
