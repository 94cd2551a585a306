pub mod Crossing
pub mod Filling
pub mod RunLaws
pub mod ShotLaws
pub mod Showing
