pub mod Padding
pub mod Sizes
pub mod Reading
pub mod Encoding
