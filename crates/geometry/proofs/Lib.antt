pub mod PlaceLaws
pub mod ReadBack
pub mod Written
