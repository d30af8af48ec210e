pub mod Decimal
pub mod Texts
pub mod Lines
pub mod Pages
pub mod Reading
