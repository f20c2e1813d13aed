pub mod Loops
pub mod Steady
pub mod Turns
pub mod Begun
pub mod Ways
