pub mod Daganzo
pub mod PlainRun
pub mod WatchedShots
