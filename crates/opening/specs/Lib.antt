pub mod Format
pub mod Mount
pub mod Told
