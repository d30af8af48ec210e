pub mod LeLaws
pub mod SerialLaws
pub mod OwnBytes
pub mod XorLaws
pub mod Outcomes
