pub mod Demands
pub mod Eased
pub mod Links
pub mod Moments
