pub mod Texts
pub mod Gathered
pub mod Lines
pub mod Claims
