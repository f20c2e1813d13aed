pub mod Ways
pub mod Entry
pub mod Reading
