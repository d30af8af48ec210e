pub mod Laws
pub mod StateLaws
pub mod Mac
pub mod Outcomes
