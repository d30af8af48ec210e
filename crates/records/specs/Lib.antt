pub mod Journal
pub mod Record
pub mod Rule
pub mod Listing
