pub mod FleetLaws
pub mod FullLaws
pub mod LastLaws
pub mod Outcomes
