pub mod Zones
pub mod RelayLaws
pub mod AnewLaws
pub mod Outcomes
