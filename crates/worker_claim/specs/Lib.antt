pub mod Driving
pub mod Helping
pub mod Members
pub mod Telling
pub mod Turns
pub mod Watching
