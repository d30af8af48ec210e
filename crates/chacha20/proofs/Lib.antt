pub mod RoundLaws
pub mod LaneLaws
pub mod BlockLaws
pub mod KeystreamLaws
pub mod LayLaws
pub mod Outcomes
