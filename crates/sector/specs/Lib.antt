pub mod Placed
pub mod Records
pub mod Written
