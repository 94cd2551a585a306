pub mod Report
pub mod FromStart
pub mod Places
pub mod Notes
