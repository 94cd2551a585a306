pub mod Area
pub mod Bottleneck
pub mod Curves
pub mod TimeSpent
pub mod Times
pub mod Waits
