pub mod DecimalLaws
pub mod PutLaws
pub mod PageLaws
pub mod ReadLaws
pub mod FieldLaws
pub mod Outcomes
pub mod Examples
