pub mod RightLaws
pub mod TouchedLaws
pub mod Detection
pub mod Collision
