pub mod Tokens
pub mod Tables
pub mod Nodes
pub mod Programs
pub mod Grammar
pub mod Whole
