-- One cached node changes: a node is made, altered or removed.
use Rattle.std.specs.Prelude.{◌≡◌, ◌≢◌, ◌≤◌, ◌<◌, ◌+◌, ℕ, List, Option, Some, None, set, slice_index_or}
use Rattle.disk.specs.Moments.{Image}
use Rattle.model_tree.specs.Trees.Keyed.{with, without}
use Rattle.model_tree.specs.Trees.Tree.{Tree}
use Rattle.layout.specs.CachedNodes.{CachedNode, node_sector, node_of, tree_of}
use Rattle.layout.specs.Laid.{AreLaid, HoldsPlace}
use Rattle.layout.specs.Marks.{namings_of}

-- the tree with a cached node, or without it if the cached node is gone
abbrev pub tree_with : Image → Tree → (was is : Option CachedNode) → Tree
tree_with image tree was (Some cached) = with tree cached.fields.number (node_of image cached)
tree_with image tree None None = tree
tree_with image tree (Some cached) None = without tree cached.fields.number

-- no other cached node has the number of what is there
abbrev pub IsOwnNumber : List (Option CachedNode) → (place : ℕ) → (is : Option CachedNode) → Type 0
IsOwnNumber cached_nodes place None = Unit {0}
IsOwnNumber cached_nodes place (Some cached) =
    (i : ℕ) (other : CachedNode) → i ≢ place → slice_index_or cached_nodes i None ≡ Some other
    → other.fields.number ≢ cached.fields.number

-- a node keeps its number
abbrev pub IsSameNumber : (was is : Option CachedNode) → Type 0
IsSameNumber None is = Unit {0}
IsSameNumber (Some old) None = Unit {0}
IsSameNumber (Some old) (Some new) = new.fields.number ≡ old.fields.number

-- From the node table on, only the place's sector and what the cached node names, or what the
-- former one named, have changed. The marks follow the cached node.
pub record ChangesOwn (nodes : ℕ) (old new : Image) (marked mark : ℕ → ℕ) (place : ℕ)
    (was is : Option CachedNode) : Type 0 where
  pub others : (n : ℕ) → 148 ≤ n → n ≢ node_sector place → namings_of n was ≡ 0 → namings_of n is
      ≡ 0
      → new n ≡ old n
  pub marks : (n : ℕ) → mark n + namings_of n was ≡ marked n + namings_of n is
  pub once : (n : ℕ) → mark n ≤ 1
  pub behind : (n : ℕ) → 0 < mark n → 148 + nodes ≤ n

-- The cached node at a place becomes another
pub record ChangesCached (nodes : ℕ) (old new : Image) (marked mark : ℕ → ℕ) (place : ℕ)
    (was is : Option CachedNode) : Type 0 where
  pub held : HoldsPlace new place is
  pub number : IsSameNumber was is
  pub own : ChangesOwn nodes old new marked mark place was is

-- Then the cached nodes are laid with this one changed, and the tree is the one with its node
-- changed
pub record AreChanged (nodes : ℕ) (old new : Image) (mark : ℕ → ℕ)
    (cached_nodes : List (Option CachedNode))
    (place : ℕ)
    (is : Option CachedNode) : Type 0 where
  pub laid : AreLaid nodes new mark (set cached_nodes place is)
  pub tree_is : tree_of new (set cached_nodes place is)
      ≡ tree_with new (tree_of old cached_nodes) (slice_index_or cached_nodes place None) is

abbrev pub OneChange : Type 0
OneChange =
    (nodes : ℕ) (old new : Image) (marked mark : ℕ → ℕ) (cached_nodes : List (Option CachedNode))
    (place : ℕ)
    (is : Option CachedNode)
    → place < nodes → AreLaid nodes old marked cached_nodes → IsOwnNumber cached_nodes place is
    → ChangesCached nodes old new marked mark place (slice_index_or cached_nodes place None) is
    → AreChanged nodes old new mark cached_nodes place is
