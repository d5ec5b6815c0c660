-- Lemmas on Booleans, options, bytes and lists that the standard library lacks.
pub mod BooleanLaws
pub mod OptionLaws
pub mod BytesLaws
pub mod Counting
