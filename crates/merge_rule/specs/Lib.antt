pub mod Exchange
pub mod Merge
