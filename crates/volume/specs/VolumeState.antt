-- What contracts see of a volume. The layers below hide where things are on the device.
use Rattle.std.specs.Prelude.{ℕ, Bool, false, List, [], ◌∷◌, ◌≡◌, ◌≤◌, ◌+◌, ◌*◌, ◌⊎◌}
use Rattle.std.specs.List.{IsAmong}
use Rattle.disk.specs.declared.update.Update.{Update}
use Rattle.disk.specs.Moments.{History, Image, Left, AddsOnly, applied, moment}
use Rattle.journal.specs.Settled.{Settles}
use Rattle.layout.specs.Stands.{Kept, StandsNow}
use Rattle.layout.specs.Versions.{IsServed, limits_by, log_by}
use Rattle.layout.specs.declared.versions.VersionNumber.{VersionNumber}
use Rattle.model_tree.specs.declared.limits.Limits.{Limits}
use Rattle.model_tree.specs.Seats.Seats.{Seats}
use Rattle.model_tree.specs.Trees.Stamp.{stamp}
use Rattle.model_tree.specs.Trees.Tree.{Tree}
use Rattle.volume.specs.Formed.{IsFormed}
use Rattle.volume.specs.Stands.{StandsFor}

-- an image, and what it is after each transaction
abbrev pub prefixes_from : Image → List (List Update) → List Image
prefixes_from base [] = base ∷ []
prefixes_from base (updates ∷ list) = base ∷ prefixes_from (applied updates base) list

pub record VolumeState : Type 0 where
  -- the version in which it is served, and its limits
  pub version : VersionNumber
  pub limits : Limits
  pub run : ℕ
  pub tree : Tree
  pub seats : Seats
  pub is_down : Bool
  pub sectors : ℕ
  pub history : History
  -- the sectors with the flushed changes, and after each change that is not flushed yet
  pub prefixes : List Image

-- it has the limits of its version
pub record IsLimited (held : VolumeState) : Type 0 where
  pub served : IsServed held.version
  pub limits : held.limits ≡ limits_by held.version held.sectors held.limits.nodes

-- the same seats with another tree
abbrev pub with_tree : VolumeState → Tree → Kept
with_tree held tree = record { tree = tree; seats = held.seats }

-- what it keeps
abbrev pub kept_of : VolumeState → Kept
kept_of held = with_tree held held.tree

-- How many writes and syncs a call makes at most, by the sectors of the log. A checkpoint copies home
-- what the log holds, and clears the commit record. A flush may have to make one first. A call
-- flushes at most twice. In versions 1 and 2, where the log has 96 sectors, these are 99, 198 and 396.

abbrev pub checkpoint_cost : VersionNumber → (sectors : ℕ) → ℕ
checkpoint_cost version sectors = let log = log_by version sectors in log.sectors + 3

abbrev pub flush_cost : VersionNumber → (sectors : ℕ) → ℕ
flush_cost version sectors = 2 * checkpoint_cost version sectors

abbrev pub call_cost : VolumeState → ℕ
call_cost held = 2 * flush_cost held.version held.sectors

-- a volume that was just mounted
pub record IsJustMounted (sectors : ℕ) (held : VolumeState) : Type 0 where
  pub is_up : held.is_down ≡ false
  pub on_device : held.sectors ≡ sectors
  pub served : IsServed held.version
  pub limits : held.limits ≡ limits_by held.version sectors held.limits.nodes
  pub formed : IsFormed held.limits (stamp held.run 0) held.tree

-- the same volume, in the same run
pub record IsSameVolume (old new : VolumeState) : Type 0 where
  pub version : new.version ≡ old.version
  pub sectors : new.sectors ≡ old.sectors
  pub limits : new.limits ≡ old.limits
  pub run : new.run ≡ old.run

-- the image represents one of these, in this run of the volume
abbrev pub StandsForOne : VolumeState → (Kept → Type 0) → Image → Type 0
StandsForOne held may image = (kept : Kept) × may kept
    × StandsFor held.sectors held.limits.nodes held.run kept image

-- each image that a crash leaves now represents one of these
abbrev pub LeavesOne : VolumeState → List Kept → Type 0
LeavesOne held recent =
    (image : Image) → Left held.history.now image → StandsForOne held (IsAmong recent) image

-- What a crash may leave, now or within a flush, as a list of trees with their seats: each of the
-- prefixes represents one of them, in the version in which the volume is served, and what is in
-- memory is among them.
pub record IsRecent (held : VolumeState) (recent : List Kept) : Type 0 where
  pub leaves : LeavesOne held recent
  pub covers : (prefix : Image) → IsAmong held.prefixes prefix
      → (kept : Kept) × IsAmong recent kept
      × ∥ StandsNow held.version held.sectors held.limits.nodes prefix held.run kept ∥₁
  pub newest : IsAmong recent (kept_of held)

-- a list of all that a crash may leave before is such a list after
abbrev pub KeepsRecent : (old new : VolumeState) → Type 0
KeepsRecent old new = (recent : List Kept) → IsRecent old recent → IsRecent new recent

-- at most `count` writes and syncs were made
abbrev pub MakesAtMost : ℕ → (old new : VolumeState) → Type 0
MakesAtMost count old new = moment new.history ≤ moment old.history + count

-- each image that a crash leaves is a volume of the version in which it is served, and holds what is
-- kept
abbrev pub LeavesCurrent : VolumeState → Type 0
LeavesCurrent held = (image : Image) → Left held.history.now image
    → ∥ ((base : Image) × Settles (log_by held.version held.sectors) image base
    × StandsNow held.version held.sectors held.limits.nodes base held.run (kept_of held)) ∥₁

-- a crash leaves what is in memory
abbrev pub Holds : VolumeState → Type 0
Holds held = IsRecent held (kept_of held ∷ [])

abbrev pub MayAdd : (recent : List Kept) → (after : Kept) → Kept → Type 0
MayAdd recent after kept = IsAmong recent kept ⊎ (kept ≡ after)

-- at every moment since, an image that a crash leaves is one that it might leave before, or
-- represents what it might leave before or what is kept after the change
abbrev pub AddsKept : VolumeState → (after : Kept) → History → Type 0
AddsKept held after new = (recent : List Kept) → IsRecent held recent
    → AddsOnly (StandsForOne held (MayAdd recent after)) held.history new
