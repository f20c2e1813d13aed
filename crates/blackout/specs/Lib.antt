pub mod Blackout
