mod Rounds
mod Sweeps
