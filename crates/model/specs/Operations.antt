-- What each operation of a COMPOUND tests, what rights it needs, and what it does: RFC 8881,
-- sections 16.2.3 and 18. `Step` leads to the definition of each.
pub mod Operation
pub mod OperationNumber
pub mod Answer
pub mod Context
pub mod Need
pub mod State
pub mod Step
pub mod StepLaws
pub mod Directory
pub mod Definition
pub mod Handles
pub mod Lookup
pub mod Create
pub mod Rename
pub mod Access
pub mod SetAttr
pub mod ReadDir
pub mod PageLaws
pub mod Open
pub mod Files
pub mod Clients
