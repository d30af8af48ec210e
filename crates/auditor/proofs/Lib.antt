pub mod ReadLaws
pub mod ListLaws
pub mod LineLaws
pub mod PageLines
pub mod KeyLaws
pub mod Theorem
