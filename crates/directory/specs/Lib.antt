pub mod Least
pub mod Listing
pub mod Order
pub mod Reading
pub mod Records
pub mod Rest
pub mod Encoding
pub mod Blocks
