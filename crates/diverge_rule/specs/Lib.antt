pub mod Allowed
pub mod Diverge
