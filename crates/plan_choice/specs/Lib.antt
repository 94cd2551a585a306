pub mod Pieces
pub mod Choice
