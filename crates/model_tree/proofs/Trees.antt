-- The laws of maps, of trees and of their edits.
pub mod KeyedLaws
pub mod KeyedChanges
pub mod AncestorLaws
pub mod EditLaws
pub mod EditViews
pub mod FreshTree
pub mod ChangeLaws
pub mod NodeChangeLaws
pub mod KeyedParts
