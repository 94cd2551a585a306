pub mod Balances
pub mod Books
pub mod BooksLaw
pub mod Flight
pub mod FlightLaw
pub mod UnevenSteps
