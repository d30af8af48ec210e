pub mod Limbs
pub mod Bounds
pub mod Turns
pub mod Lanes
