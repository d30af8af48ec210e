pub mod HeadLaws
pub mod Outcomes
pub mod OpeningLaws
