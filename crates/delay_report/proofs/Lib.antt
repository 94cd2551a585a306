pub mod ByRegion
pub mod Lines
pub mod RecordedSteps
pub mod LastRegions
pub mod FromStart
