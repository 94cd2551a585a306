pub mod Neighbours
pub mod Sets
pub mod AtSpeeds
pub mod ZonesMade
pub mod Swept
pub mod Waits
