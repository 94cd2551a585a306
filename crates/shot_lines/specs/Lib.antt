pub mod ShotText
pub mod Shots
