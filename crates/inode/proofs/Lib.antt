pub mod EntryLemmas
pub mod Parts
pub mod ReadBack
