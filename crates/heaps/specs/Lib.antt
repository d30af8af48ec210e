pub mod Paths
pub mod Heap
