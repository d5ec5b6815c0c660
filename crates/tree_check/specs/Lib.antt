pub mod Ages
pub mod Nodes
pub mod ShapeLaws
pub mod Stamps
pub mod Trees
pub mod Walks
pub mod WellFormed
