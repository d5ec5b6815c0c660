pub mod Operations
pub mod Sessions
pub mod Wire
pub mod Server
pub mod Examples
