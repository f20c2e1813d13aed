pub mod Trees
pub mod Kept
