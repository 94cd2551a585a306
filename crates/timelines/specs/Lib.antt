pub mod Timelines
pub mod Passing
pub mod Cells
pub mod Links
