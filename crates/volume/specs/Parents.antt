-- The parents of a volume's nodes, by place, after a change.
use Rattle.std.specs.Prelude.{◌≡◌, ℕ, List, Option, Some, None, set}
use Rattle.node_table.specs.Tables.{node_number_at}
use Rattle.layout.specs.CachedNodes.{CachedNode}

-- at the place of the number of a name that was put is the name's directory
pub record PutsParent (cached_nodes : List (Option CachedNode)) (old new : List ℕ)
    (put : Option (ℕ × ℕ))
    : Type 0 where
  pub none : put ≡ None → new ≡ old
  pub some : (number directory place : ℕ) → put ≡ Some (number, directory)
      → node_number_at cached_nodes place ≡ Some number → new ≡ set old place directory
