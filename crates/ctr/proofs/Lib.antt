pub mod CounterLaws
pub mod StreamLaws
pub mod Outcomes
