pub mod Crews
pub mod Enlisted
pub mod Near
pub mod Rounds
pub mod Run
pub mod Telling
pub mod ToldParts
pub mod ToldShots
