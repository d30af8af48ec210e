pub mod PageLaws
pub mod MountLaws
pub mod Outcomes
pub mod Examples
