pub mod KnownWords
pub mod Modes
pub mod Refusing
pub mod Settings
pub mod Values
pub mod Words
