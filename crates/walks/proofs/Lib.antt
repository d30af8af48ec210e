pub mod Again
pub mod Steps
