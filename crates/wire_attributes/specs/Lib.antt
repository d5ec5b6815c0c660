pub mod Clauses
pub mod Given
pub mod Listed
pub mod NodeValues
pub mod Views
