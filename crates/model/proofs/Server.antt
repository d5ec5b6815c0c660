-- The laws of runs, and of runs that follow a crash.
pub mod TurnCases
pub mod StampLaws
pub mod RunLaws
pub mod Headline
pub mod HeldLaws
pub mod SettledLaws
pub mod SoundLaws
pub mod ResultRuns
pub mod ServedOnceLaws
pub mod RuledOutLaws
