pub mod Accepted
pub mod Alone
pub mod Chains
pub mod Fitting
pub mod Securities
