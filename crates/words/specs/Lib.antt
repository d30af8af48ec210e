pub mod Word
pub mod Le
pub mod Xor
