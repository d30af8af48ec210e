pub mod BitLaws
pub mod MaskLaws
pub mod CountLaws
pub mod RecordLaws
pub mod RuleLaws
pub mod ListingLaws
pub mod Outcomes
