pub mod Steps
pub mod Begins
pub mod Starts
pub mod Prefix
pub mod Else
pub mod CallTurns
pub mod Loops
