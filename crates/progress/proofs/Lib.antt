pub mod Leaf
pub mod Moves
pub mod Fuel
