pub mod Identity
pub mod Moments
