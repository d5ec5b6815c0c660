pub mod ArgumentFits
pub mod Rests
pub mod Reading
