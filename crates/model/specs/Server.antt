-- The whole server: each event, each run, and the runs that follow a crash.
pub mod Served
pub mod World
pub mod Runs
pub mod RuledOut
pub mod ServedOnce
pub mod SoundRuns
pub mod StampRuns
pub mod AnswerRuns
