pub mod Writes
pub mod Figures
