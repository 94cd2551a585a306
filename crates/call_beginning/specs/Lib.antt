pub mod Input
pub mod NetworkInput
pub mod Recording
pub mod Refused
pub mod Task
pub mod UsedCutting
pub mod UsedRegions
pub mod Words
