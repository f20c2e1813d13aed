pub mod Turn
pub mod Tables
