pub mod Encoding
pub mod Places
pub mod Reading
