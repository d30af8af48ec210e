pub mod Queue
pub mod Images
