pub mod ProbeLaws
pub mod Outcomes
