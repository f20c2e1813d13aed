pub mod Same
pub mod Sized
pub mod Spelled
pub mod Range
pub mod Page
