pub mod Messages
pub mod OneMessage
