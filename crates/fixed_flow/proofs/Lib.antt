pub mod DigitFacts
pub mod Limits
pub mod MiddleFacts
pub mod PassFacts
pub mod PrintedFacts
pub mod WholeFacts
