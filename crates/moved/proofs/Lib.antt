pub mod Parts
pub mod After
pub mod Back
pub mod Moves
pub mod Spent
pub mod Journeys
