pub mod FillLaws
pub mod AnswerLaws
pub mod Refused
pub mod Exact
pub mod Outcomes
pub mod TestedLaws
