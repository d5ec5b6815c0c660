pub mod Charge
pub mod Cutting
pub mod Depth
pub mod Encoding
pub mod Entries
pub mod Held
pub mod Setting
pub mod Tree
