pub mod Index
pub mod Overlays
pub mod Seen
pub mod Tables
