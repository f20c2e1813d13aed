pub mod Walk
pub mod Words
pub mod Agrees
pub mod Example
