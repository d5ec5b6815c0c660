pub mod Rights
pub mod Refusals
pub mod Trees
pub mod Seats
