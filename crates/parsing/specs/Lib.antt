pub mod Ahead
pub mod Places
pub mod Asked
pub mod Calls
