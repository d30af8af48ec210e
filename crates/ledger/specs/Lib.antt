pub mod Listing
pub mod Totals
pub mod Ledger
pub mod Invariant
pub mod Step
pub mod Onward
