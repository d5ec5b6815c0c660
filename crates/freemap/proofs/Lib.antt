pub mod Bits
pub mod Setting
pub mod Laws
pub mod PartLaws
pub mod KeptLemmas
pub mod PageLaws
pub mod GroupLaws
