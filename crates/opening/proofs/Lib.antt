pub mod FormatLaws
mod ToldLaws
pub mod MountLaws
pub mod Refusals
pub mod HeadBack
pub mod Reopens
pub mod FreshLaws
pub mod Outcomes
