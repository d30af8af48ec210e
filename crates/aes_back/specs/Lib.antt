pub mod InvAes
pub mod Tables
