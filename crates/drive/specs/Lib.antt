pub mod Drive
pub mod Head
pub mod Opening
