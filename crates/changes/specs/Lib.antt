pub mod Laid
pub mod Change
pub mod Write
pub mod Rekey
pub mod Discard
pub mod First
pub mod Relaid
