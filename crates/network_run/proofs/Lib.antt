pub mod Crewing
pub mod Ending
pub mod RoundCounts
pub mod Told
pub mod ToldShots
