pub mod Answer
pub mod Numbers
pub mod Classes
pub mod Stages
