pub mod Near
pub mod Runs
pub mod Strings
pub mod Items
pub mod Premise
pub mod Trials
pub mod Pairs
pub mod Random
