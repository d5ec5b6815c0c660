-- What the result of a mount says.
use Rattle.std.specs.Prelude.{ℕ, ⊤, List, ◌≡◌, ◌≤◌, ◌+◌, ◌*◌, ◌^◌, ◌⊎◌}
use Rattle.disk.specs.Calls.{zero_sector}
use Rattle.disk.specs.Cause.{IsCounted}
use Rattle.disk.specs.Moments.{Image, History, AddsOnly, moment, seen, synced}
use Rattle.journal.specs.declared.layout.LogArea.{LogArea}
use Rattle.journal.specs.Settled.{Settles, SettlesAs}
use Rattle.layout.specs.Stands.{Kept}
use Rattle.layout.specs.Versions.{served}
use Rattle.model_tree.specs.Seats.Seats.{Seats, AreOfRuns}
use Rattle.volume.specs.VolumeState.{VolumeState, Holds, IsJustMounted, LeavesCurrent, flush_cost}
use Rattle.volume.specs.Mounts.{moving_transactions}
use Rattle.volume.specs.Remounts.{AddsMount, IsFound}
use Rattle.volume.specs.Stands.{IsBase}
use Rattle.volume.specs.Superblock.{log_in, mount_verdict, nodes_in, version_in}
use Rattle.volume.specs.declared.fault.MountFault.{MountFault}
use Rattle.volume.specs.declared.fault.MountFault.TheVariants as mounts
use Rattle.volume.specs.declared.volume.Unmounted.{Unmounted}
use Rattle.volume.specs.declared.superblock.Verdict.{Verdict}
use Rattle.volume.specs.declared.superblock.Verdict.TheVariants as verdicts

-- what the first sector of a device says
abbrev pub first_verdict : (sectors : ℕ) → History → Verdict
first_verdict sectors old = mount_verdict sectors (seen old.now 0)

-- and where it has the log
abbrev pub first_log : (sectors : ℕ) → History → LogArea
first_log sectors old = log_in sectors (seen old.now 0)

abbrev pub NoTree : (sectors : ℕ) → History → Type 0
NoTree sectors old =
    (nodes run : ℕ) (kept : Kept) → IsBase sectors nodes run kept (seen old.now) → ⊥

-- A volume of version 2 or 3 that has no mark of a migration once its commit record is replayed: a
-- mount of it moves no node
pub record NeedsNoMigration (sectors : ℕ) (old : History) : Type 0 where
  pub version : version_in (seen old.now 0) ≡ served (version_in (seen old.now 0))
  pub unmarked : (base : Image) → Settles (first_log sectors old) (seen old.now) base
      → base 147 ≡ zero_sector

-- The journal copies home what its commit record names, up to the sectors of its log, with at most
-- six more writes and syncs; and the commit record and sector 0 are written, with a sync after each.
-- In versions 1 and 2 these are 106.
abbrev pub replay_cost : (sectors : ℕ) → (first : List ℕ) → ℕ
replay_cost sectors first = let log = log_in sectors first in log.sectors + 10

-- A mount of a volume that moves no node makes no more
abbrev pub MountsBriefly : (sectors : ℕ) → (old new : History) → Type 0
MountsBriefly sectors old new =
    NeedsNoMigration sectors old
    → moment new ≤ moment old + replay_cost sectors (seen old.now 0)

-- A mount of any volume makes at most this many writes and syncs, by the version and the number of
-- nodes in its first sector: those, and for each transaction at most a flush. Of version 1 each of
-- (nodes + 46) / 47 transactions moves 47 nodes, and one more removes the mark of the migration; of
-- version 2 there is at most this one.
abbrev pub mount_cost : (sectors : ℕ) → (first : List ℕ) → ℕ
mount_cost sectors first =
    replay_cost sectors first
    + flush_cost (version_in first) sectors
    * (moving_transactions (version_in first) (nodes_in first) + 1)

abbrev pub MountIsBounded : (sectors : ℕ) → (old new : History) → Type 0
MountIsBounded sectors old new = moment new ≤ moment old + mount_cost sectors (seen old.now 0)

-- A mount that serves: the first sector is sound, the tree that was there is served, and a crash
-- leaves it in the version in which it is served, under the new count
pub record HasMounted (sectors : ℕ) (old : History) (held : VolumeState) : Type 0 where
  pub first : first_verdict sectors old ≡ verdicts.Sound
  pub found : IsFound sectors old held
  pub moments : AddsMount sectors old held.history
  -- and from its first sync on nothing of what was left before
  pub since_sync : AddsMount sectors (synced old) held.history
  -- five steps at least: a sync, the commit record, a sync, sector 0, and a sync
  pub steps : moment old + 5 ≤ moment held.history
  pub brief : MountsBriefly sectors old held.history
  pub bounded : MountIsBounded sectors old held.history
  pub current : LeavesCurrent held
  pub holds : Holds held

-- The seats that a mount returns: on any device they are of sessions of the runs before this one,
-- and they are those of the volume if the device keeps its word
pub record FindsSeats (keeps_word : Type 0) (held : VolumeState) (seats : Seats) : Type 0 where
  pub count : ℕ
  pub counted : held.run ≡ count + 1
  pub of_runs : AreOfRuns count seats
  pub are : keeps_word → seats ≡ held.seats

-- Nothing but the replay of a commit record that is set: what it names is copied home, so that each
-- image left settles as the device did. If the record is not well formed, nothing is written.
pub record OnlyReplays (sectors : ℕ) (old new : History) : Type 0 where
  pub moments : AddsOnly (SettlesAs (first_log sectors old) (seen old.now)) old new
  pub formless : ((settled : Image) → Settles (first_log sectors old) (seen old.now) settled → ⊥)
      → (new ≡ old) ⊎ (new ≡ synced old)

-- NotVolume and Worn depend only on the first sector, and come before Damaged. If there is a tree,
-- Worn is returned only for a full count
pub record IsNoVolume (sectors : ℕ) (old new : History) : Type 0 where
  pub first : first_verdict sectors old ≡ verdicts.NotVolume
  pub no_tree : NoTree sectors old
  pub untouched : new ≡ old

pub record IsWorn (sectors : ℕ) (old new : History) : Type 0 where
  pub first : first_verdict sectors old ≡ verdicts.Worn
  pub full : (nodes run : ℕ) (kept : Kept) → IsBase sectors nodes run kept (seen old.now)
      → run + 1 ≡ 2 ^ 32
  pub untouched : new ≡ old

pub record IsDamaged (sectors : ℕ) (old new : History) : Type 0 where
  pub first : ((first_verdict sectors old ≡ verdicts.Damaged) × (new ≡ old))
      ⊎ (first_verdict sectors old ≡ verdicts.Sound)
  pub no_tree : NoTree sectors old

abbrev pub HasReason : (sectors : ℕ) → (old new : History) → MountFault → Type 0
HasReason sectors old new mounts.NotVolume = IsNoVolume sectors old new
HasReason sectors old new mounts.Worn = IsWorn sectors old new
HasReason sectors old new mounts.Damaged = IsDamaged sectors old new
HasReason sectors old new mounts.Memory = ⊤
HasReason sectors old new mounts.Device = ⊤

-- A mount that is refused: what is kept remains as it was, and its count is raised only if the
-- device failed
pub record IsMountRefused (sectors : ℕ) (old new : History) (fault : MountFault) : Type 0 where
  pub moments : AddsMount sectors old new
  pub brief : MountsBriefly sectors old new
  pub bounded : MountIsBounded sectors old new
  pub writes : (fault ≡ mounts.Device → ⊥) → OnlyReplays sectors old new
  pub reason : HasReason sectors old new fault

-- the device that comes back, which had `sectors` sectors and `failures` failures before: the fault
-- is Device exactly if it counted one
pub record ComesBack {D : Type 0} (size failed : D → ℕ) (sectors failures : ℕ)
    (refused : Unmounted D) : Type 0 where
  pub same_size : size refused.device ≡ sectors
  pub later : failures ≤ failed refused.device
  pub cause : refused.fault ≡ mounts.Device → IsCounted failures (failed refused.device)
  pub none : (refused.fault ≡ mounts.Device → ⊥) → failed refused.device ≡ failures

-- What a mount says after an `Ok`, and each layer above passes on: what it serves, and that its
-- device has not failed
pub record MountServes {D : Type 0} (keeps_word : Type 0) (size failed : D → ℕ)
    (history : D → History) (device : D) (held : VolumeState) (failures : ℕ) : Type 0 where
  pub new : IsJustMounted (size device) held
  pub counted : failures ≡ failed device
  pub mounted : keeps_word → HasMounted (size device) (history device) held

-- and after an `Err`: the device that comes back, and why
pub record MountGivesBack {D : Type 0} (keeps_word : Type 0) (size failed : D → ℕ)
    (history : D → History) (device : D) (unmounted : Unmounted D) : Type 0 where
  pub back : ComesBack size failed (size device) (failed device) unmounted
  pub refused : keeps_word
      → IsMountRefused (size device) (history device) (history unmounted.device) unmounted.fault
