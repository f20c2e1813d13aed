pub mod Then
pub mod NextKind
pub mod Turns
pub mod Ends
