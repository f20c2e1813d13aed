pub mod Bounds
pub mod One
