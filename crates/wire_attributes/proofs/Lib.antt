pub mod Alone
pub mod AnswerLaws
pub mod Bits
mod EachTest
pub mod Entries
pub mod ListedLaws
pub mod Loops
pub mod Naming
pub mod NodeSizes
pub mod Whole
mod WithinLaws
