-- What a run does to a volume before it serves.
use Rattle.std.specs.Prelude.{◌≡◌, ◌≤◌, ◌+◌, ◌*◌, ℕ, Bool, true, false, List, Option, Some, None, Result, OnOk, is_some}
use Rattle.disk.specs.Cause.{IsCounted}
use Rattle.disk.specs.Moments.{Image, AddsOnly, moment}
use Rattle.journal.specs.Log.{Log, Costs, IsSettled, MakesAtMost}
use Rattle.journal.specs.declared.fault.JournalFault.{JournalFault}
use Rattle.layout.specs.CachedNodes.{CachedNode, cached_nodes_in}
use Rattle.layout.specs.Rewriting.{all_second}
use Rattle.layout.specs.Stands as layout
use Rattle.layout.specs.Stands.{AreKept, IsMark, IsNumber, Kept, MayHaveSeats, StandsNow, number_of_version, served, version_by, sizes_by}
use Rattle.layout.specs.declared.versions.VersionNumber.{VersionNumber}
use Rattle.layout.specs.declared.versions.VersionNumber.TheVariants.{One, Two, Three}
use Rattle.migration.specs.declared.fault.MigrationFault.{MigrationFault}
use Rattle.model_tree.specs.Seats.Seats.{Seats}
use Rattle.volume.specs.Loads.{read_as}
use Rattle.volume.specs.Mounts.{AddsRaised, IsAtRest, StandsIn, begin_cost, moving_transactions}
use Rattle.volume.specs.Stands.{StandsForIn}
use Rattle.volume.specs.VolumeState.{flush_cost}
use Rattle.volume.specs.declared.mount.Superblock.{Superblock}

-- how often the device has failed, before and after: a failure is counted exactly if it failed here
pub record Counts (before after : ℕ) (faulted : Type 0) : Type 0 where
  pub later : before ≤ after
  pub cause : faulted → IsCounted before after
  pub none : (faulted → ⊥) → after ≡ before

-- the mark once the nodes have moved: in version 1 it counts all places
abbrev pub moved_mark : VersionNumber → (nodes : ℕ) → Option ℕ → Option ℕ
moved_mark One nodes mark = Some nodes
moved_mark Two nodes mark = mark
moved_mark (Three s) nodes mark = mark

-- whether there is a mark then
abbrev pub is_marked : VersionNumber → Option ℕ → Bool
is_marked One mark = true
is_marked Two None = false
is_marked Two (Some moved) = true
is_marked (Three s) mark = false

-- the new image holds what is kept, with the mark after the move and the same cached nodes except
-- for their forms
pub record HasMovedTo (found : Superblock) (mark : Option ℕ) (kept : Kept) (old new : Image)
    : Type 0 where
  pub stands : StandsIn found (moved_mark found.version found.nodes mark) new kept
  pub cached_nodes : all_second (cached_nodes_in found.nodes new)
      ≡ all_second (cached_nodes_in found.nodes old)

-- The commit record was written again as it is, with a sync: the log is as it was, except that its
-- history has two more steps
pub record HasRewritten (keeps_word : Type 0) (old new : Log) : Type 0 where
  pub rests : (version : VersionNumber) → IsAtRest version old → IsAtRest version new
  pub only : keeps_word → new ≡ record old { history = new.history }
  pub cost : keeps_word → Costs 2 old new

-- The commit record is written again and the nodes move. At each moment the volume holds what it
-- held with this mark
pub record MovesNodes (keeps_word : Type 0) (found : Superblock) (mark : Option ℕ) (old new : Log)
    (result : Result (Unit {0}) MigrationFault) : Type 0 where
  pub size : new.size ≡ old.size
  pub rests : OnOk result (IsAtRest found.version new)
  pub steps : keeps_word → OnOk result (moment old.history + 2 ≤ moment new.history)
  pub brief : keeps_word
      → MakesAtMost (2 + flush_cost found.version found.sectors
      * moving_transactions found.version found.nodes) old new
  pub moments : keeps_word → (kept : Kept) → StandsIn found mark old.base kept
      → AddsOnly
      (StandsForIn (number_of_version found.version) found.sectors found.nodes found.run kept)
      old.history new.history
  pub stands : keeps_word → OnOk result ((kept : Kept) → StandsIn found mark old.base kept
      → HasMovedTo found mark kept old.base new.base)

-- a volume of a version that is served, with this mark, holds this tree and these seats
pub record StandsInServed (version : VersionNumber) (mark : Option ℕ) (size nodes run : ℕ)
    (base : Image) (kept : Kept) : Type 0 where
  pub is_number : IsNumber version
  pub marked : IsMark version nodes mark
  pub may : MayHaveSeats version mark kept.seats
  pub keeps : AreKept (sizes_by version) run kept.seats
  pub stands : layout.TreeStands (version_by version mark kept.seats) size nodes base run kept.tree

-- it is held with no mark, with the same cached nodes except for their forms
pub record IsCleared (version : VersionNumber) (nodes run : ℕ) (kept : Kept) (old new : Log)
    : Type 0 where
  pub stands : StandsNow version old.size nodes new.base run kept
  pub cached_nodes : all_second (cached_nodes_in nodes new.base)
      ≡ all_second (cached_nodes_in nodes old.base)

-- The mark, if there is one, is removed, and the volume holds what is kept at each moment
pub record Clears (keeps_word : Type 0) (version : VersionNumber) (marked : Bool) (old new : Log)
    (result : Result (Unit {0}) JournalFault) : Type 0 where
  pub size : new.size ≡ old.size
  pub rests : OnOk result (IsAtRest version new)
  pub untouched : marked ≡ false → new ≡ old
  pub settled : keeps_word → IsSettled old → OnOk result (IsSettled new)
  pub brief : keeps_word → MakesAtMost (flush_cost version old.size) old new
  pub moments : keeps_word → (mark : Option ℕ) (nodes run : ℕ) (kept : Kept)
      → is_some mark ≡ marked → StandsInServed version mark old.size nodes run old.base kept
      → AddsOnly (StandsForIn (number_of_version version) old.size nodes run kept)
      old.history new.history
  pub stands : keeps_word → OnOk result ((mark : Option ℕ) (nodes run : ℕ) (kept : Kept)
      → is_some mark ≡ marked → StandsInServed version mark old.size nodes run old.base kept
      → IsCleared version nodes run kept old new)

-- The run has begun: these cached nodes are those of the sectors, which hold their tree with the
-- seats in the version in which it is served, under the next count
pub record ServesFrom (found : Superblock) (cached_nodes : List (Option CachedNode)) (seats : Seats)
    (old new : Image) : Type 0 where
  pub read : cached_nodes ≡ cached_nodes_in found.nodes new
  pub stands : StandsNow (served found.version) found.sectors found.nodes new (found.run + 1)
      (read_as old cached_nodes seats)

-- However it ends, the volume holds at each moment what it held before, under either count. If
-- nothing moves, it writes at most the commit record and sector 0, with a sync after each.
pub record StartsSafely (found : Superblock) (mark : Option ℕ) (old new : Log) : Type 0 where
  pub moments : AddsRaised found old.base old.history new.history
  pub brief : found.version ≡ served found.version → mark ≡ None
      → moment new.history ≤ moment old.history + 4
  pub bounded : MakesAtMost (begin_cost found) old new

pub record HasStarted (keeps_word : Type 0) (found : Superblock)
    (cached_nodes : List (Option CachedNode))
    (seats : Seats) (old new : Log) : Type 0 where
  pub rests : IsAtRest (served found.version) new
  pub serves : keeps_word → ∥ ServesFrom found cached_nodes seats old.base new.base ∥₁
  pub settled : keeps_word → IsSettled new
  -- the commit record, sector 0, and a sync after each
  pub steps : keeps_word → moment old.history + 4 ≤ moment new.history
