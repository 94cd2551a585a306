pub mod Space
pub mod Weights
pub mod Ratios
pub mod Limits
pub mod Flows
pub mod Following
