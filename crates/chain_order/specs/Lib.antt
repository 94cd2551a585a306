pub mod Order
pub mod Inverse
