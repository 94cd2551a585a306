pub mod FirstLine
pub mod Cutting
pub mod SideBySide
pub mod Sizes
pub mod WholeRun
