pub mod PathLaws
pub mod Steps
pub mod HeapLaws
