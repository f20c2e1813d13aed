pub mod Begins
pub mod Kept
pub mod Ends
