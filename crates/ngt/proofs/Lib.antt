pub mod CallLaws
pub mod TwinsLaws
pub mod LineLaws
pub mod Outcomes
