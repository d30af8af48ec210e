pub mod ToldLaws
pub mod Outcomes
