pub mod CellStates
pub mod SpeedZones
pub mod Speeds
pub mod Sweeping
pub mod Moving
pub mod Waiting
