pub mod Pick
pub mod Lists
pub mod Outcome
