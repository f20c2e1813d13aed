pub mod Stores
pub mod Rooms
pub mod Put
pub mod Field
pub mod Rest
pub mod Rows
