pub mod Commits
pub mod Faults
pub mod Migrations
pub mod Plans
