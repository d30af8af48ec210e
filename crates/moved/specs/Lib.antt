pub mod Moves
pub mod Spent
pub mod Journeys
