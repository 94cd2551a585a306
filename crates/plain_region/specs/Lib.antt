pub mod Carrying
pub mod CellRows
pub mod Opened
pub mod Opening
pub mod Plain
pub mod RegionConnectors
