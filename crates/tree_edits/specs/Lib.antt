pub mod Doing
pub mod Edits
pub mod Measures
pub mod Outcomes
pub mod Outlines
pub mod Parts
pub mod Sizes
