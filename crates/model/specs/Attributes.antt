-- The tests of attributes, and the values that a node has.
pub mod Attribute
pub mod AttributeValue
pub mod AclText
pub mod NodeAttributes
