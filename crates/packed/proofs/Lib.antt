pub mod ImageLaws
pub mod Outcomes
