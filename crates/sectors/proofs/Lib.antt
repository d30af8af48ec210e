pub mod RowLaws
pub mod KeyLaws
pub mod SectorLaws
pub mod Outcomes
