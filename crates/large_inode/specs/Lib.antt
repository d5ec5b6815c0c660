pub mod Fields
pub mod Ranges
pub mod Reading
pub mod Encoding
