pub mod Store
pub mod Work
pub mod Calls
pub mod Once
