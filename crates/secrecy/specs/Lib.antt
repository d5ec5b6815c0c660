pub mod Blind
pub mod Onlookers
