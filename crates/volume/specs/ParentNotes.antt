-- The names of one directory after another are noted at the places of the nodes that they lead to.
use Rattle.std.specs.Prelude.{◌≡◌, ◌<◌, ℕ, List, Option, Some, length, slice_index_or}
use Rattle.node_table.specs.Tables.{node_number_at}
use Rattle.layout.specs.CachedNodes.{CachedNode}
use Rattle.layout.specs.Marks.{times}

-- at the place of each node of one of these numbers is the directory's number, and at the places of
-- the other nodes is what was there
pub record IsNoted (cached_nodes : List (Option CachedNode)) (old new numbers : List ℕ)
    (directory : ℕ)
    : Type 0 where
  pub count : length new ≡ length old
  pub led : (place number : ℕ) → node_number_at cached_nodes place ≡ Some number
      → 0 < times number numbers → slice_index_or new place 0 ≡ directory
  pub others : (place number : ℕ) → node_number_at cached_nodes place ≡ Some number
      → times number numbers ≡ 0 → slice_index_or new place 0 ≡ slice_index_or old place 0
