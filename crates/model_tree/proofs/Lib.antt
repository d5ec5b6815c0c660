pub mod Facts
pub mod Rights
pub mod Trees
