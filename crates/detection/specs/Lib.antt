pub mod Right
pub mod Detection
pub mod Collision
