pub mod Helped
pub mod Nearing
pub mod Rounds
pub mod Sweeping
pub mod Turning
