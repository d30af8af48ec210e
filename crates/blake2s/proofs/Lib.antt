pub mod RoundLaws
pub mod ByteLaws
pub mod StreamLaws
pub mod FaceLaws
pub mod Outcomes
