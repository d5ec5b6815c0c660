-- Numbers and their places by rising number, as they are in memory.
use Rattle.std.specs.Prelude.{◌≡◌, ◌≢◌, ◌<◌, ◌+◌, ℕ, List, [], ◌∷◌, Option, Some, None, length, slice_index_or}
use Rattle.model_tree.specs.Trees.Keyed.{Keyed}
use Rattle.layout.specs.CachedNodes.{CachedNode}

abbrev pub key_at : Keyed ℕ → ℕ → ℕ
key_at index i = let entry = slice_index_or index i (0, 0) in entry.0

-- the entry at place i has the number
pub record IsAt (index : Keyed ℕ) (number i : ℕ) : Type 0 where
  pub within : i < length index
  pub is : key_at index i ≡ number

-- the entries of the nodes in the order of their places, of which this is the first one
abbrev pub entries_from : (first : ℕ) → List (Option CachedNode) → Keyed ℕ
entries_from first [] = []
entries_from first (None ∷ cached_nodes) = entries_from (first + 1) cached_nodes
entries_from first (Some cached ∷ cached_nodes) =
    (cached.fields.number, first) ∷ entries_from (first + 1) cached_nodes

-- no two neighbours have the same number
abbrev pub AreDifferent : Keyed ℕ → Type 0
AreDifferent index = (i : ℕ) → i + 1 < length index → key_at index i ≢ key_at index (i + 1)
