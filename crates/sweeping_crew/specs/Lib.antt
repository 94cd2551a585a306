pub mod Driving
pub mod Members
