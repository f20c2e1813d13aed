pub mod Lex
pub mod Steps
