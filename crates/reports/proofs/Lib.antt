pub mod CountLaws
pub mod ShareLaws
pub mod AnswerLaws
pub mod ReportLaws
pub mod StoredLaws
pub mod Exact
pub mod Outcomes
