-- Worked rows, to which the definitions compute.
pub mod RpcRows
pub mod SessionRows
pub mod StateIdRows
pub mod WorldRows
