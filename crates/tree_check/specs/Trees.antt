-- When the nodes at the places of a table make one tree: what the links of a well-formed tree
-- become by the sums of `layout`.
use Rattle.std.specs.Prelude.{◌≡◌, ◌<◌, ℕ, List, [], Option, Some, None, length, slice_index_or}
use Rattle.model_tree.specs.Trees.Tree.{root}
use Rattle.node_table.specs.Tables.{node_number_at}
use Rattle.layout.specs.CachedNodes.{CachedNode}
use Rattle.layout.specs.Marks.{times}
use Rattle.layout.specs.SumLaws.{entry_numbers, other_numbers, numbers_of}

-- the numbers that the names of the node at a place lead to: none if the place is free

abbrev pub led_by : Option CachedNode → List ℕ
led_by None = []
led_by (Some cached) = numbers_of cached.names

abbrev pub led_at : List (Option CachedNode) → (place : ℕ) → List ℕ
led_at cached_nodes place = led_by (slice_index_or cached_nodes place None)

-- reached: the root, and what a name in a reached directory leads to
pub data IsReached (cached_nodes : List (Option CachedNode)) : ℕ → Type 0 where
  Root : IsReached cached_nodes root
  Named : (place number i : ℕ) → node_number_at cached_nodes place ≡ Some number
      → IsReached cached_nodes number
      → i < length (led_at cached_nodes place)
      → IsReached cached_nodes (slice_index_or (led_at cached_nodes place) i 0)

pub record IsOneTree (cached_nodes : List (Option CachedNode)) : Type 0 where
  -- there is a root
  pub rooted : (place : ℕ) × (node_number_at cached_nodes place ≡ Some root)
  -- each other node has one name, and neither the root nor a number without a node has one
  pub linked : (number : ℕ)
      → times number (entry_numbers cached_nodes) ≡ times number (other_numbers cached_nodes)
  -- each is reached
  pub reached : (place number : ℕ) → node_number_at cached_nodes place ≡ Some number
      → IsReached cached_nodes number
