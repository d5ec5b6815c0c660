pub mod Chunks
pub mod Search
