pub mod Entry
pub mod Ways
