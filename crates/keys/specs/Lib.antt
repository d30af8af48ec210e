pub mod Keys
pub mod Ciphers
pub mod Pads
pub mod Tags
