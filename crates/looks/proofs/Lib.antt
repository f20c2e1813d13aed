pub mod Owed
pub mod Functions
pub mod Expressions
pub mod Statements
pub mod Bound
pub mod Uncut
pub mod Trials
