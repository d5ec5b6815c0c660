pub mod RecordLemmas
pub mod CallLemmas
pub mod LandingLemmas
pub mod TrialLemmas
pub mod SectorLemmas
pub mod MomentLemmas
