pub mod SameReads
pub mod Absent
pub mod Steady
pub mod OldUnseen
pub mod Blank
pub mod Example
