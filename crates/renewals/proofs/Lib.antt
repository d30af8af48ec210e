pub mod Stays
pub mod Renewals
