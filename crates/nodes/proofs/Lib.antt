pub mod Bounds
pub mod MadeLaws
pub mod StoreLaws
pub mod HashLaws
pub mod Outcomes
