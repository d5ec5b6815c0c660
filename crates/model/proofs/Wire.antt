-- The grammars are exact: what is read is what was written.
pub mod RecordLaws
pub mod RecordOnly
pub mod FeedingLaws
pub mod RpcExact
pub mod ExactTypes
pub mod ExactAnswers
pub mod ResultLaws
pub mod AttributeExact
pub mod AclTextLaws
