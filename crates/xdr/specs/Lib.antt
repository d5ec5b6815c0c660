pub mod Grammar
pub mod Forms
pub mod Union
pub mod Laws
pub mod Clauses
pub mod Filling
