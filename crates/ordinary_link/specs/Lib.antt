pub mod Flows
pub mod Rooms
pub mod Row
pub mod Waiting
