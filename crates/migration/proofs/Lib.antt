pub mod Committing
pub mod Migrating
pub mod Reaching
pub mod Transactions
