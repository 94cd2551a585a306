pub mod Inputs
pub mod UsedCutting
pub mod WordsBehind
