-- The effect of a migration on a volume.
use Rattle.std.specs.Prelude.{◌≡◌, ◌+◌, ◌-◌, ◌*◌, ℕ, false, List, [], Option, Some, length}
use Rattle.disk.specs.Moments.{Image, AddsOnly}
use Rattle.journal.specs.declared.layout.LogArea.{LogArea}
use Rattle.journal.specs.Log.{Log, MakesAtMost}
use Rattle.journal.specs.Settled.{Settles}
use Rattle.layout.specs.CachedNodes.{CachedNode, cached_nodes_in}
use Rattle.layout.specs.Rewriting.{all_second}
use Rattle.layout.specs.Stands.{Version, IsMark, TreeStands, StandsAs, bare, current_version, moved_by, version_1, version_2}
use Rattle.layout.specs.declared.versions.VersionNumber.TheVariants as numbers
use Rattle.migration.specs.Plans.{transactions_for}
use Rattle.model_tree.specs.Seats.Seats.{no_seats}
use Rattle.model_tree.specs.Trees.Tree.{Tree}

-- an image that a crash leaves represents the tree, under this restart count, in the version of
-- this number
pub record IsStill (number : ℕ) (area : LogArea) (size nodes run : ℕ) (tree : Tree)
    (image : Image) : Type 0 where
  pub base : Image
  pub settles : Settles area image base
  pub stands : StandsAs size nodes base run (bare tree)
  pub number_is : stands.version.number ≡ number

abbrev pub StandsStill : (number : ℕ) → LogArea → (size nodes run : ℕ) → Tree → Image → Type 0
StandsStill number area size nodes run tree image =
    ∥ IsStill number area size nodes run tree image ∥₁

-- at every moment since, an image that a crash leaves is one that it could leave before, or
-- represents the tree
abbrev pub AddsStill : (number nodes run : ℕ) → Tree → (old new : Log) → Type 0
AddsStill number nodes run tree old new =
    AddsOnly (StandsStill number old.area old.size nodes run tree) old.history new.history

-- What the volume held in one version it holds in the other: the same tree, with the same cached
-- nodes, except for their forms
pub record IsMoved (is : Version) (nodes run : ℕ) (tree : Tree) (old new : Log) : Type 0 where
  pub stands : TreeStands is old.size nodes new.base run tree
  pub cached_nodes : all_second (cached_nodes_in nodes new.base)
      ≡ all_second (cached_nodes_in nodes old.base)

-- a journal in which nothing is pending, whose transactions may write up to the device's end
pub record Rests (log : Log) : Type 0 where
  pub up : log.is_down ≡ false
  pub listed : log.list ≡ []
  pub whole : log.area.end ≡ log.size

-- the log is in the same place, on a device of the same size
pub record StaysInPlace (old new : Log) : Type 0 where
  pub area : new.area ≡ old.area
  pub size : new.size ≡ old.size

-- A transaction that is flushed makes at most this many writes and syncs, those of one flush.
abbrev pub transaction_cost : LogArea → ℕ
transaction_cost area = 2 * (area.sectors + 3)

-- What a migration begins with: the volume holds the tree in version 1, its mark counts `moved`
-- places, and the nodes are those of its sectors
pub record BeginsMoving (mark : Option ℕ) (moved run : ℕ) (tree : Tree)
    (cached_nodes : List (Option CachedNode))
    (log : Log) : Type 0 where
  pub marked : IsMark numbers.One (length cached_nodes) mark
  pub told : moved_by mark ≡ moved
  pub stands : TreeStands (version_1 mark) log.size (length cached_nodes) log.base run tree
  pub read : cached_nodes ≡ all_second (cached_nodes_in (length cached_nodes) log.base)

-- However it ends: at each moment the volume holds the tree in version 1, under the restart count
-- that it had. The commit record takes a write and a sync, and each transaction at most one flush.
pub record MovesSafely (moved : ℕ) (cached_nodes : List (Option CachedNode))
    (old new : Log) : Type 0 where
  pub moments : (mark : Option ℕ) (run : ℕ) (tree : Tree)
      → BeginsMoving mark moved run tree cached_nodes old
      → AddsStill 1 (length cached_nodes) run tree old new
  pub brief : MakesAtMost
      (2 + transactions_for (length cached_nodes - moved) * transaction_cost old.area)
      old new

-- and in the end the mark counts all places
abbrev pub HasMovedAll : (moved : ℕ) → List (Option CachedNode) → (old new : Log) → Type 0
HasMovedAll moved cached_nodes old new =
    (mark : Option ℕ) (run : ℕ) (tree : Tree) → BeginsMoving mark moved run tree cached_nodes old
    → IsMoved (version_1 (Some (length cached_nodes))) (length cached_nodes) run tree old new

-- The mark is removed from version 2, in which the volume holds the tree at each moment, by one
-- transaction
pub record ClearsSafely (old new : Log) : Type 0 where
  pub moments : (mark : Option ℕ) (nodes run : ℕ) (tree : Tree) → IsMark numbers.Two nodes mark
      → TreeStands (version_2 mark no_seats) old.size nodes old.base run tree
      → AddsStill 2 nodes run tree old new
  pub brief : MakesAtMost (transaction_cost old.area) old new

abbrev pub HasCleared : (old new : Log) → Type 0
HasCleared old new =
    (mark : Option ℕ) (nodes run : ℕ) (tree : Tree) → IsMark numbers.Two nodes mark
    → TreeStands (version_2 mark no_seats) old.size nodes old.base run tree
    → IsMoved (current_version no_seats) nodes run tree old new
