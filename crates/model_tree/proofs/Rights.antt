-- The laws of lists and modes.
pub mod ModeLaws
pub mod NumberLaws
pub mod LimitLaws
