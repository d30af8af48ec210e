pub mod WindowLaws
pub mod ImportLaws
pub mod Outcomes
