pub mod Reading
pub mod Question
