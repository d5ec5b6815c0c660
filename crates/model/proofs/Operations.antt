-- The laws of one operation.
pub mod RefusalLaws
pub mod AttributeLaws
pub mod NodeAttributeLaws
pub mod PageLaws
pub mod StepCases
pub mod StepProofs
pub mod FileStepLaws
pub mod ReadOperations
pub mod GivenLaws
pub mod AnswerLaws
