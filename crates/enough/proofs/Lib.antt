pub mod Lexing
pub mod Enough
