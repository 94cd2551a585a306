pub mod Neighbours
pub mod Steps
