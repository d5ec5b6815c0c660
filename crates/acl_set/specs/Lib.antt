pub mod Class
pub mod Refused
