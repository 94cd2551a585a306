pub mod Converted
pub mod SameNetwork
