pub mod Areas
pub mod Bottlenecks
pub mod CellSteps
pub mod Travels
pub mod Waits
