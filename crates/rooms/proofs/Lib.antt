pub mod Allowed
pub mod Owed
pub mod Readers
pub mod Most
