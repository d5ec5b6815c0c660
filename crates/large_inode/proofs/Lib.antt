pub mod Parts
pub mod ReadBack
pub mod Written
