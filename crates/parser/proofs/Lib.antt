pub mod Look
pub mod Push
pub mod Write
pub mod Exits
