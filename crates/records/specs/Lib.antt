pub mod Table
pub mod Words
pub mod Rows
pub mod Kinds
pub mod Messages
pub mod Outcomes
