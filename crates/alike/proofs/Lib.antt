pub mod Same
pub mod Trials
pub mod Pairs
