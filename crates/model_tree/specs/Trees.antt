-- A file system as a value: nodes with their names, bytes and metadata, the edits that every change
-- is made of, and whether a volume has the space.
pub mod Keyed
pub mod KeyedChanges
pub mod Tree
pub mod WellFormed
pub mod Edit
pub mod Changes
pub mod Ancestors
pub mod Charge
pub mod Limits
pub mod Stamp
pub mod Fresh
