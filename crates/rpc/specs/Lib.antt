pub mod Assembly
pub mod Places
pub mod Views
