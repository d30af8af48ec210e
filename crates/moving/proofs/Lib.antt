pub mod AnswerLaws
pub mod CarryLaws
pub mod Outcomes
pub mod Refusals
