pub mod Collision
pub mod Twins
pub mod Excludes
