pub mod Reading
pub mod Runs
pub mod Sector
pub mod Shared
