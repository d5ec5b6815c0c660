pub mod ReadingExample
pub mod Readings
