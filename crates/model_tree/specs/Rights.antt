-- Who may do what: RFC 8881, section 6. An access control list decides, and a mode is read from it.
pub mod Acl
pub mod AclEntries
pub mod Mode
pub mod Inherit
pub mod AclLaws
pub mod AclExamples
