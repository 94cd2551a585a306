pub mod Parking
pub mod Sweeping
pub mod Telling
