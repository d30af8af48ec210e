pub mod ReadingLaws
pub mod StandingLaws
pub mod TakenLaws
pub mod Outcomes
