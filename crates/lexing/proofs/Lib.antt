pub mod Told
pub mod Kept
pub mod Answer
pub mod Ends
pub mod Begins
pub mod Examples
pub mod Strings
