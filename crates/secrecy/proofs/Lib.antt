pub mod Hiding
pub mod Alike
pub mod BlindLaws
pub mod SeenTables
pub mod SeenRuns
