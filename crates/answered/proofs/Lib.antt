pub mod Input
pub mod Answered
