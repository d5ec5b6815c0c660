-- Cached nodes in place of some of a table's.
use Rattle.std.specs.Prelude.{◌≡◌, ◌≢◌, ◌<◌, ℕ, List, [], ◌∷◌, Option, Some, None, set}
use Rattle.std.specs.Prelude.{slice_index_or}
use Rattle.model_tree.specs.Trees.Keyed.{Keyed, at}
use Rattle.layout.specs.CachedNodes.{CachedNode}
use Rattle.node_table.specs.Tables.{node_number_at, AreBelow}

-- the cached nodes of a table, and the current ones
pub record Overlaid : Type 0 where
  pub table : List (Option CachedNode)
  pub cached_nodes : List (Option CachedNode)

-- Changes: cached nodes, or none, by the places that they are for

-- the cached nodes with these changes
abbrev pub overlaid : List (Option CachedNode) → Keyed (Option CachedNode)
    → List (Option CachedNode)
overlaid cached_nodes [] = cached_nodes
overlaid cached_nodes (change ∷ changes) = set (overlaid cached_nodes changes) change.0 change.1

-- no place has two changes
abbrev pub HaveOwnPlace : Keyed (Option CachedNode) → Type 0
HaveOwnPlace [] = Unit {0}
HaveOwnPlace (change ∷ changes) = (at change.0 changes ≡ None) × HaveOwnPlace changes

-- each is for a place below `count`
abbrev pub PlacesWithin : (count : ℕ) → Keyed (Option CachedNode) → Type 0
PlacesWithin count [] = Unit {0}
PlacesWithin count (change ∷ changes) = (change.0 < count) × PlacesWithin count changes

-- change i
abbrev pub change_at : Keyed (Option CachedNode) → (i : ℕ) → ℕ × Option CachedNode
change_at changes i = slice_index_or changes i (0, None)

-- What a table may become

-- a node is at a place that had no node with its number
pub record IsMade (old new : List (Option CachedNode)) (place number : ℕ) : Type 0 where
  pub now : node_number_at new place ≡ Some number
  pub before : node_number_at old place ≢ Some number

-- a number above 0 and above those of all nodes
pub record IsFresh (cached_nodes : List (Option CachedNode)) (number : ℕ) : Type 0 where
  pub some : 0 < number
  pub above : AreBelow cached_nodes number

-- nodes are removed and replaced, and at most one is made, with a fresh number
pub record CanBecome (old new : List (Option CachedNode)) : Type 0 where
  pub fresh : (place number : ℕ) → IsMade old new place number → IsFresh old number
  pub one : (place number other another : ℕ) → IsMade old new place number
      → IsMade old new other another → place ≡ other
