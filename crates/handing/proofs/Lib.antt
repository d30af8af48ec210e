pub mod HandLaws
pub mod Outcomes
