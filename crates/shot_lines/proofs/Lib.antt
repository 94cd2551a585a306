pub mod FlightLines
pub mod ManyShots
