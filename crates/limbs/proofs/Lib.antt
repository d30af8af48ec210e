pub mod Field
pub mod Digits
pub mod Quads
pub mod TurnLaws
pub mod FourLaws
pub mod GroupLaws
pub mod LaneLaws
pub mod Outcomes
