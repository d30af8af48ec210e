pub mod Poly1305
pub mod State
pub mod Vectors
