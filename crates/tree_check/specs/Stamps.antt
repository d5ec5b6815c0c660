-- The stamps of the names at the places of a table.
use Rattle.std.specs.Prelude.{◌≢◌, ◌≤◌, ◌<◌, ◌+◌, ◌++◌, ℕ, List, [], ◌∷◌, Option, Some, None, length, map, slice_index_or}
use Rattle.directory.specs.Records.{Record}
use Rattle.layout.specs.CachedNodes.{CachedNode}
use Rattle.layout.specs.Marks.{times}

abbrev pub stamps_of : List Record → List ℕ
stamps_of names = map (λ entry. entry.0) names

abbrev pub stamped_by : Option CachedNode → List ℕ
stamped_by None = []
stamped_by (Some cached) = stamps_of cached.names

abbrev pub entry_stamps : List (Option CachedNode) → List ℕ
entry_stamps [] = []
entry_stamps (cached ∷ cached_nodes) = stamped_by cached ++ entry_stamps cached_nodes

-- none occurs twice
abbrev pub AreStampsApart : List (Option CachedNode) → Type 0
AreStampsApart cached_nodes = (stamp : ℕ) → times stamp (entry_stamps cached_nodes) ≤ 1

-- each differs from the next one
abbrev pub AreDifferent : List ℕ → Type 0
AreDifferent stamps =
    (i : ℕ) → i + 1 < length stamps → slice_index_or stamps i 0 ≢ slice_index_or stamps (i + 1) 0
