pub mod RecutParts
pub mod Resumed
pub mod ResumedAs
pub mod Resuming
pub mod Saved
pub mod SavedRun
