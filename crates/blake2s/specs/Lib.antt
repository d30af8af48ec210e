pub mod Compress
pub mod Hash
pub mod Stream
pub mod Vectors
