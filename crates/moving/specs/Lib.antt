pub mod Carry
pub mod Move
