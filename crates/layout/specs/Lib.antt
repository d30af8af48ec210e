pub mod Shape
pub mod Parts
pub mod Spots
pub mod Shaped
