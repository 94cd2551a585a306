pub mod DrawOrder
pub mod LineOrder
