pub mod Ratios
pub mod Boundless
pub mod Weights
pub mod Bounding
pub mod Spaces
pub mod Made
pub mod Nothing
