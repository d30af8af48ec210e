pub mod SheetLaws
pub mod Follows
pub mod Outcomes
