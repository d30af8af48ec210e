pub mod WordLaws
pub mod LookLaws
pub mod TableLaws
pub mod StateLaws
pub mod RoundLaws
pub mod KeyLaws
pub mod Outcomes
