pub mod Bounds
pub mod Places
pub mod Lanes
pub mod LesserLanes
pub mod MarkLanes
pub mod SumLanes
