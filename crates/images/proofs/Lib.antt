pub mod AnswerLaws
pub mod BackLaws
pub mod Outcomes
