pub mod Nodes
pub mod Made
pub mod Alike
