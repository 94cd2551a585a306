pub mod Daganzo
pub mod RunMode
pub mod WatchMode
pub mod SampleMode
