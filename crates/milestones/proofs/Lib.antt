pub mod Taken
pub mod Spread
pub mod Over
pub mod ByteLaws
pub mod Given
pub mod Shown
