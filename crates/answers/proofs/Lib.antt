pub mod ClassLaws
pub mod NumberLaws
pub mod Outcomes
pub mod StageLaws
