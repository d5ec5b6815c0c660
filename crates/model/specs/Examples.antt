-- Worked examples, to which the definitions compute.
pub mod StepExamples
pub mod FileExamples
pub mod RightsExamples
