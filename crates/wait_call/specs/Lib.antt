pub mod Answer
pub mod Ended
pub mod Seats
pub mod Telling
pub mod Words
