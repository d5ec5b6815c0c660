-- A walk over directories: the places that were met, in order, and a mark for each place.
use Rattle.std.specs.Prelude.{◌≡◌, ◌<◌, ◌++◌, ◌⊎◌, ℕ, Bool, false, List, [], ◌∷◌, Option, Some, None, length, map, take, slice_index_or}
use Rattle.node_table.specs.Tables.{node_number_at, HasNoNode}
use Rattle.layout.specs.CachedNodes.{CachedNode}
use Rattle.layout.specs.Marks.{once_if, times}
use Rattle.tree_check.specs.Trees.{led_at, IsReached}

-- the number of the node at a place, 0 if it is free

abbrev pub number_or : Option ℕ → ℕ
number_or None = 0
number_or (Some number) = number

abbrev pub number_in : List (Option CachedNode) → (place : ℕ) → ℕ
number_in cached_nodes place = number_or (node_number_at cached_nodes place)

-- the numbers of these places' nodes, and those that their names lead to
abbrev pub numbers_at : List (Option CachedNode) → List ℕ → List ℕ
numbers_at cached_nodes places = map (number_in cached_nodes) places

abbrev pub led_from : List (Option CachedNode) → List ℕ → List ℕ
led_from cached_nodes [] = []
led_from cached_nodes (place ∷ places) = led_at cached_nodes place ++ led_from cached_nodes places

-- each place that was met has a node that is reached, and is marked and met once
pub record IsWalk (cached_nodes : List (Option CachedNode)) (seen : List Bool) (order : List ℕ)
    : Type 0 where
  pub marks : length seen ≡ length cached_nodes
  pub once : (place : ℕ) → times place order ≡ once_if (slice_index_or seen place false)
  pub there : (i : ℕ) → i < length order
      → node_number_at cached_nodes (slice_index_or order i 0)
      ≡ Some (number_in cached_nodes (slice_index_or order i 0))
  pub reached : (i : ℕ) → i < length order
      → IsReached cached_nodes (number_in cached_nodes (slice_index_or order i 0))

-- no node has the number, or it is one of these
abbrev pub IsMissing : List (Option CachedNode) → List ℕ → (number : ℕ) → Type 0
IsMissing cached_nodes met number = HasNoNode cached_nodes number ⊎ (0 < times number met)

-- the walk goes on, and has also met the nodes with these numbers
pub record Meets (cached_nodes : List (Option CachedNode)) (seen : List Bool)
    (old new numbers : List ℕ)
    : Type
    0 where
  pub walk : IsWalk cached_nodes seen new
  pub more : List ℕ
  pub prefix : new ≡ old ++ more
  pub met : numbers_at cached_nodes new ≡ numbers_at cached_nodes old ++ numbers

-- a name at the place leads to no node, or to one that was met
pub record IsStuck (cached_nodes : List (Option CachedNode)) (order : List ℕ)
    (place : ℕ) : Type 0 where
  pub i : ℕ
  pub within : i < length (led_at cached_nodes place)
  pub missing : IsMissing cached_nodes
      (numbers_at cached_nodes order ++ take i (led_at cached_nodes place))
      (slice_index_or (led_at cached_nodes place) i 0)
