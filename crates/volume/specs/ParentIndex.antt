-- Which directory has the name of each node of a table.
use Rattle.std.specs.Prelude.{◌≡◌, ◌<◌, ℕ, List, Option, Some, length, slice_index_or}
use Rattle.model_tree.specs.Trees.Tree.{root}
use Rattle.node_table.specs.Tables.{node_number_at}
use Rattle.layout.specs.CachedNodes.{CachedNode}
use Rattle.layout.specs.Marks.{times}
use Rattle.tree_check.specs.Trees.{led_at}

-- a name at a place leads to a number
abbrev pub PlaceLeadsTo : List (Option CachedNode) → (place number : ℕ) → Type 0
PlaceLeadsTo cached_nodes place number = 0 < times number (led_at cached_nodes place)

-- a name in the directory of one number, which is at this place, leads to the other number
pub record HasChild (cached_nodes : List (Option CachedNode)) (directory number : ℕ) : Type 0 where
  pub place : ℕ
  pub there : node_number_at cached_nodes place ≡ Some directory
  pub leads : PlaceLeadsTo cached_nodes place number

-- Numbers by place: at the place of a node, the number of the directory that has its name; and 0 at
-- the place of the root, since no directory has a name of it. At a free place it may be any number.
pub record AreParents (cached_nodes : List (Option CachedNode)) (parents : List ℕ) : Type 0 where
  pub count : length parents ≡ length cached_nodes
  pub named : (place number directory : ℕ) → node_number_at cached_nodes place ≡ Some number
      → HasChild cached_nodes directory number → slice_index_or parents place 0 ≡ directory
  pub rooted : (place : ℕ) → node_number_at cached_nodes place ≡ Some root
      → slice_index_or parents place 0 ≡ 0
