pub mod MessageLaws
pub mod MeetLaws
pub mod AnswerLaws
pub mod StepLaws
pub mod Excludes
pub mod Outcomes
