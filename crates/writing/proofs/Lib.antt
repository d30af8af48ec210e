pub mod AnswerLaws
pub mod StoreLaws
pub mod Refused
pub mod Outcomes
