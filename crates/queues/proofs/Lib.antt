pub mod QueueLaws
pub mod ImageLaws
pub mod LoopLaws
pub mod Outcomes
