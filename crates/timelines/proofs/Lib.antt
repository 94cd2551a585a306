pub mod Phases
pub mod Passing
pub mod Starts
pub mod Cells
pub mod Links
