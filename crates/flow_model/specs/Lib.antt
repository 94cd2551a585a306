pub mod Bounds
pub mod FlowLaw
pub mod Flows
pub mod Limits
pub mod Moves
pub mod Rows
pub mod State
pub mod Stepping
