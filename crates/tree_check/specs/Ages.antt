-- The nodes at the places of a table, and their names, are from before a stamp.
use Rattle.std.specs.Prelude.{◌≡◌, ◌<◌, ℕ, List, Option, Some, None, slice_index_or}
use Rattle.std.specs.List.{AllByRecursion}
use Rattle.directory.specs.Records.{Record}
use Rattle.layout.specs.CachedNodes.{CachedNode}

abbrev pub AreNamesBefore : (stamp : ℕ) → List Record → Type 0
AreNamesBefore stamp names = AllByRecursion (λ entry. entry.0 < stamp) names

pub record IsCachedBefore (stamp : ℕ) (cached : CachedNode) : Type 0 where
  pub number : cached.fields.number < stamp
  pub change : cached.fields.change < stamp
  pub names : AreNamesBefore stamp cached.names

abbrev pub AreBefore : (stamp : ℕ) → List (Option CachedNode) → Type 0
AreBefore stamp cached_nodes =
    (place : ℕ) (cached : CachedNode) → slice_index_or cached_nodes place None ≡ Some cached
    → IsCachedBefore stamp cached
