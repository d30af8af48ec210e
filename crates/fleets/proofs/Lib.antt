pub mod GatherLaws
pub mod PieceLaws
pub mod LineLaws
pub mod OpenLaws
pub mod EnoughLaws
pub mod Outcomes
