pub mod Path
pub mod Whole
pub mod Fresh
pub mod Renewed
pub mod Good
