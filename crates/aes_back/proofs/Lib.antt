pub mod MixLaws
pub mod InverseLaws
pub mod InvTableLaws
pub mod InvRoundLaws
pub mod EquivalentLaws
pub mod Outcomes
