-- Why something is refused: the tests in their order, each with the status that it returns.
pub mod Refusal
pub mod Status
pub mod Name
