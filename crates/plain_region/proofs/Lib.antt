pub mod CellRefs
pub mod Changes
pub mod Carrying
pub mod Advancing
