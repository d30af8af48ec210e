pub mod World
pub mod Step
pub mod History
pub mod Demands
pub mod Pads
pub mod Answers
pub mod Relaid
