pub mod Edits
pub mod Every
pub mod Parts
pub mod Places
pub mod ReadBack
pub mod Sectors
