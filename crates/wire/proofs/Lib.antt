pub mod Bitmaps
pub mod Entries
pub mod ExactArguments
pub mod Owners
pub mod Sizes
pub mod Writes
