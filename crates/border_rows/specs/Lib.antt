pub mod Kinds
pub mod Places
pub mod Spans
pub mod Standing
pub mod Views
pub mod Words
