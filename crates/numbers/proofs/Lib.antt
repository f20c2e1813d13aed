pub mod Whole
pub mod Join
pub mod Value
pub mod Examples
