pub mod FillingLaws
pub mod IndexLaws
pub mod OverlayLaws
pub mod TableLaws
