pub mod Choosing
pub mod GrownCuttings
