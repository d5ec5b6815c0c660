pub mod Holes
pub mod RunLemmas
pub mod Making
pub mod Laying
pub mod SectorLemmas
pub mod ReadBack
