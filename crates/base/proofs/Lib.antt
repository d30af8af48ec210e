pub mod OutcomeLaws
pub mod PickLaws
pub mod TabLaws
pub mod PartLaws
pub mod FoldLaws
