pub mod Answer
pub mod Operation
pub mod Status
pub mod Refusal
pub mod Session
pub mod SessionRuns
