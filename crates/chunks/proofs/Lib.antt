pub mod Exits
pub mod Places
pub mod Replacing
pub mod Turning
