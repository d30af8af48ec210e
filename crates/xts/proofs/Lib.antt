pub mod Rows
pub mod AlphaLaws
pub mod SectorCode
pub mod XtsLaws
pub mod Outcomes
