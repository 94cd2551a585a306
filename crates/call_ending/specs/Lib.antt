pub mod Calls
pub mod Ending
pub mod Refusing
pub mod Status
pub mod Why
pub mod Writing
