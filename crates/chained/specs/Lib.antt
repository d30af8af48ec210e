pub mod Back
pub mod Host
