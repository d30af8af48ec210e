pub mod Nugget
pub mod Tests
pub mod Touched
