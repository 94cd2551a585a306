pub mod Answer
pub mod Ended
pub mod Telling
