-- What a mount finds on the base of a journal.
use Rattle.std.specs.Prelude.{ℕ, ⊤, false, [], Option, Some, Result, Ok, Err, ◌≡◌, ◌≤◌, ◌<◌, ◌+◌, ◌*◌, ◌^◌, ◌⊎◌, List, IsTrue}
use Rattle.disk.specs.Calls.{zero_sector}
use Rattle.disk.specs.Moments.{Image, History, AddsOnly, moment}
use Rattle.journal.specs.Log.{Log, Costs, IsSettled}
use Rattle.layout.specs.CachedNodes.{cached_nodes_in}
use Rattle.layout.specs.Rewriting.{all_second}
use Rattle.layout.specs.Stands as layout
use Rattle.layout.specs.Stands.{AreKept, IsMark, IsNumber, Kept, MayHaveSeats, log_by, number_of_version, served, size_by, version_by, sizes_by}
use Rattle.layout.specs.declared.versions.VersionNumber.{VersionNumber}
use Rattle.layout.specs.declared.versions.VersionNumber.TheVariants as numbers
use Rattle.migration.specs.Plans.{transactions_for}
use Rattle.volume.specs.VolumeState.{VolumeState, Holds, LeavesCurrent, flush_cost, kept_of}
use Rattle.volume.specs.Stands.{VolumeStands, StandsForIn}
use Rattle.volume.specs.Superblock.{superblock, mount_verdict}
use Rattle.volume.specs.declared.fault.MountFault.{MountFault}
use Rattle.volume.specs.declared.fault.MountFault.TheVariants as mounts
use Rattle.volume.specs.declared.mount.Superblock.{Superblock}
use Rattle.volume.specs.declared.superblock.Verdict.TheVariants as verdicts

-- a volume as its first sector describes it; its count may be full
pub record HasSize (sectors : ℕ) (found : Superblock) : Type 0 where
  pub size : found.sectors ≡ sectors
  pub number : IsNumber found.version
  pub sized : IsTrue (size_by found.version found.sectors found.nodes)
  pub counted : found.run < 2 ^ 32

-- a volume as its first sector describes it, of which one more mount can be counted
pub record IsVolumeOf (sectors : ℕ) (found : Superblock) : Type 0 where
  pub size : found.sectors ≡ sectors
  pub number : IsNumber found.version
  pub sized : IsTrue (size_by found.version found.sectors found.nodes)
  pub counted : found.run + 1 < 2 ^ 32

-- a journal with nothing left to flush, whose log is where the version has it
pub record IsAtRest (version : VersionNumber) (log : Log) : Type 0 where
  pub up : log.is_down ≡ false
  pub listed : log.list ≡ []
  pub placed : log.area ≡ log_by version log.size

-- what the first sector says, by the result of reading it
abbrev pub IsTold : (sectors : ℕ) → (sector : List ℕ) → Result Superblock MountFault → Type 0
IsTold sectors sector (Ok found) =
    (mount_verdict sectors sector ≡ verdicts.Sound)
    × (sector ≡ superblock found.version found.sectors found.nodes found.run)
IsTold sectors sector (Err mounts.NotVolume) = mount_verdict sectors sector ≡ verdicts.NotVolume
IsTold sectors sector (Err mounts.Worn) = mount_verdict sectors sector ≡ verdicts.Worn
IsTold sectors sector (Err mounts.Damaged) = mount_verdict sectors sector ≡ verdicts.Damaged
IsTold sectors sector (Err mounts.Memory) = ⊥
IsTold sectors sector (Err mounts.Device) = ⊤

-- this base holds the tree and the seats, under the count that was found
abbrev pub StandsOn : Superblock → (base : Image) → Kept → Type 0
StandsOn found base kept = VolumeStands found.sectors found.nodes base found.run kept

-- an image represents them, in the version and under the count that were found, or in the version in
-- which it is served and under the next count
abbrev pub StandsForEither : Superblock → Kept → Image → Type 0
StandsForEither found kept image =
    StandsForIn (number_of_version found.version) found.sectors found.nodes found.run kept image
    ⊎ StandsForIn (number_of_version (served found.version)) found.sectors found.nodes
    (found.run + 1) kept image

-- what a run that begins adds to what a crash may leave: what the base holds, under either count
abbrev pub AddsRaised : Superblock → (base : Image) → (old new : History) → Type 0
AddsRaised found base old new =
    (kept : Kept) → StandsOn found base kept → AddsOnly (StandsForEither found kept) old new

-- The nodes have form two: the version is not 1, or the mark counts all places
abbrev pub AllHaveMoved : VersionNumber → (nodes : ℕ) → (mark : Option ℕ) → Type 0
AllHaveMoved numbers.One nodes mark = mark ≡ Some nodes
AllHaveMoved numbers.Two nodes mark = IsMark numbers.Two nodes mark
AllHaveMoved (numbers.Three s) nodes mark = IsMark (numbers.Three s) nodes mark

-- this base holds the tree and the seats, in the version that was found, with this mark
pub record StandsIn (found : Superblock) (mark : Option ℕ) (base : Image) (kept : Kept)
    : Type 0 where
  pub may : MayHaveSeats found.version mark kept.seats
  pub keeps : AreKept (sizes_by found.version) found.run kept.seats
  pub stands : layout.TreeStands (version_by found.version mark kept.seats)
      found.sectors found.nodes base found.run kept.tree

-- The new base holds them in the version in which it is served, under the next count, with the same
-- cached nodes except for their forms
pub record IsRaisedTo (mark : Option ℕ) (found : Superblock) (kept : Kept) (old new : Image)
    : Type 0 where
  pub may : MayHaveSeats (served found.version) mark kept.seats
  pub keeps : AreKept (sizes_by (served found.version)) (found.run + 1) kept.seats
  pub stands : layout.TreeStands (version_by (served found.version) mark kept.seats)
      found.sectors found.nodes new (found.run + 1) kept.tree
  pub cached_nodes : all_second (cached_nodes_in found.nodes new)
      ≡ all_second (cached_nodes_in found.nodes old)

-- The count is raised with the version, once the nodes have moved, by a write and a sync
pub record RaisesSafely (found : Superblock) (old : Log) (new : History) : Type 0 where
  pub moments : (mark : Option ℕ) (kept : Kept)
      → AllHaveMoved found.version found.nodes mark → StandsIn found mark old.base kept
      → AddsOnly (StandsForEither found kept) old.history new
  pub brief : moment new ≤ moment old.history + 2

pub record IsRaised (keeps_word : Type 0) (found : Superblock) (old new : Log) : Type 0 where
  pub still_up : new.is_down ≡ false
  pub stands : keeps_word → (mark : Option ℕ) (kept : Kept)
      → AllHaveMoved found.version found.nodes mark → StandsIn found mark old.base kept
      → IsRaisedTo mark found kept old.base new.base
  pub settled : keeps_word → IsSettled new
  pub cost : keeps_word → Costs 2 old new

-- version 2 or 3, with no mark of a migration: no node has to move
abbrev pub NeedsNoMove : Superblock → (base : Image) → Type 0
NeedsNoMove found base = (found.version ≡ served found.version) × (base 147 ≡ zero_sector)

-- then a run begins with at most two writes and two syncs
abbrev pub BeginsBriefly : Superblock → (base : Image) → (old new : History) → Type 0
BeginsBriefly found base old new = NeedsNoMove found base → moment new ≤ moment old + 4

-- the number of transactions that move the nodes of a volume, at most: of version 1, 47 nodes each
abbrev pub moving_transactions : VersionNumber → (nodes : ℕ) → ℕ
moving_transactions numbers.One nodes = transactions_for nodes
moving_transactions numbers.Two nodes = 0
moving_transactions (numbers.Three s) nodes = 0

-- A run begins with at most this many writes and syncs: those four, and a flush for each transaction
-- that moves nodes, and for the one that removes the mark.
abbrev pub begin_cost : Superblock → ℕ
begin_cost found =
    4 + flush_cost found.version found.sectors
    * (moving_transactions found.version found.nodes + 1)

-- a run that begins on a base
pub record HasBegun (found : Superblock) (base : Image) (old : History) (held : VolumeState)
    : Type 0 where
  pub version : held.version ≡ served found.version
  pub run : held.run ≡ found.run + 1
  pub nodes : held.limits.nodes ≡ found.nodes
  pub stood : ∥ StandsOn found base (kept_of held) ∥₁
  pub moments : AddsRaised found base old held.history
  pub steps : moment old + 4 ≤ moment held.history
  pub brief : BeginsBriefly found base old held.history
  pub bounded : moment held.history ≤ moment old + begin_cost found
  pub current : LeavesCurrent held
  pub holds : Holds held

-- one that does not
pub record IsNotBegun (found : Superblock) (base : Image) (old new : History) (fault : MountFault)
    : Type 0 where
  pub moments : AddsRaised found base old new
  pub brief : BeginsBriefly found base old new
  pub bounded : moment new ≤ moment old + begin_cost found
  pub no_tree : fault ≡ mounts.Damaged → (kept : Kept) → StandsOn found base kept → ⊥
  pub untouched : (fault ≡ mounts.Device → ⊥) → new ≡ old
  pub only : (fault ≡ mounts.Device) ⊎ ((fault ≡ mounts.Damaged) ⊎ (fault ≡ mounts.Memory))
