mod AnyCalls
mod Sweeps
mod Runs
mod Turns
