pub mod Rooms
pub mod RunLaws
pub mod Shots
pub mod Snapshots
