-- What a call does to a volume, stated once for each call of this crate and of those above it that
-- may change the tree.
use Rattle.std.specs.Prelude.{ℕ, Bool, true, false, List, Result, Ok, Err, ◌≡◌, ◌≤◌, ◌⊎◌}
use Rattle.std.specs.List.{IsAmong}
use Rattle.disk.specs.Cause.{IsCounted}
use Rattle.layout.specs.Stands.{Kept}
use Rattle.model_tree.specs.Seats.Seats.{Seats}
use Rattle.model_tree.specs.Trees.Tree.{Tree}
use Rattle.volume.specs.declared.fault.VolumeFault.{VolumeFault}
use Rattle.volume.specs.declared.fault.VolumeFault.TheVariants as fault
use Rattle.volume.specs.VolumeState.{VolumeState, IsSameVolume, IsRecent, AddsKept, MakesAtMost}
use Rattle.volume.specs.VolumeState.{call_cost, kept_of, with_tree}
use Rattle.volume.specs.Alike.{ShowsAs}

-- how a call ends: it succeeded, it left all as it was, or the device failed in it
pub data Ending : Type 0 where
  Done : Ending
  Nothing : Ending
  Broken : Ending

abbrev pub ending_of : {T : Type 0} → Result T VolumeFault → Ending
ending_of (Ok done) = Done
ending_of (Err fault.NoSpace) = Nothing
ending_of (Err fault.Memory) = Nothing
ending_of (Err fault.Device) = Broken
ending_of (Err fault.Down) = Nothing

-- What the definition says of a call: what is kept after it, a tree and the seats, and whether that
-- has to last. A change that may be lost until a later one, such as an unstable write, does not
-- have to.
abbrev pub Given : Type 1
Given = (after : Kept) → (lasts : Bool) → Type 0

-- that it is this tree, and the seats as they were. It says nothing of `lasts`, so it has to last;
-- a relation that says false lets it be lost.
abbrev pub IsTree : VolumeState → Tree → Given
IsTree held tree after lasts = after ≡ with_tree held tree

-- that it is the tree as it was, with these seats, and has to last
abbrev pub IsSeats : VolumeState → Seats → Given
IsSeats held seats after lasts = after ≡ record { tree = held.tree; seats = seats }

-- the same tree with these seats, which a crash may lose until the next flush
abbrev pub IsReseated : VolumeState → Seats → Given
IsReseated held seats after lasts = IsSeats held seats after lasts × (lasts ≡ false)

-- that it is as it was, and that nothing has to last that did not before
abbrev pub Stays : VolumeState → Given
Stays held after lasts = (after ≡ kept_of held) × (lasts ≡ false)

-- a crash after the call leaves one of these: each is from before, or what is kept after it; if
-- that has to last, nothing from before
pub record LeavesOnCrash (new : VolumeState) (after : Kept) (lasts : Bool) (recent left : List Kept)
    : Type 0 where
  pub ready : IsRecent new left
  pub no_others : (kept : Kept) → IsAmong left kept → IsAmong recent kept ⊎ (kept ≡ after)
  pub durable : lasts ≡ true → (kept : Kept) → IsAmong left kept → kept ≡ after

-- whatever a crash may leave before it
abbrev pub LeavesKept : (old new : VolumeState) → (after : Kept) → (lasts : Bool) → Type 0
LeavesKept old new after lasts = (recent : List Kept) → IsRecent old recent
    → (left : List Kept) × LeavesOnCrash new after lasts recent left

pub record HasAnswered (keeps_word : Type 0) (given : Given) (old new : VolumeState) : Type 0 where
  pub still_up : new.is_down ≡ false
  pub seats : keeps_word → (after : Kept) (lasts : Bool) → given after lasts
      → new.seats ≡ after.seats
  pub leaves : keeps_word → (after : Kept) (lasts : Bool) → given after lasts
      → LeavesKept old new after lasts

-- it is down, and the device counted a failure; and on any device it shows what it showed before
-- the call, or the tree after it
pub record HasBroken (given : Given) (old new : VolumeState) (failed_before failed_after : ℕ)
    : Type 0 where
  pub down : new.is_down ≡ true
  pub cause : IsCounted failed_before failed_after
  pub shows : ShowsAs old.tree new.tree
      ⊎ ((after : Kept) (lasts : Bool) → given after lasts → ShowsAs after.tree new.tree)

abbrev pub EndsAs : (keeps_word : Type 0) → Given → (old new : VolumeState) → (before after : ℕ)
    → Ending → Type 0
EndsAs keeps_word given old new before after Done = HasAnswered keeps_word given old new
EndsAs keeps_word given old new before after Nothing = new ≡ old
EndsAs keeps_word given old new before after Broken = HasBroken given old new before after

-- `failed_before` and `failed_after` are how often the device had failed before and after the call
pub record VolumeChanges (keeps_word : Type 0) (given : Given) (old new : VolumeState)
    (failed_before failed_after : ℕ) (ending : Ending) : Type 0 where
  pub same : IsSameVolume old new
  pub later : failed_before ≤ failed_after
  -- every failure in it is reported
  pub none : (ending ≡ Broken → ⊥) → failed_after ≡ failed_before
  -- at each moment of it a crash leaves something from before, or what is kept after it
  pub moments : keeps_word → (after : Kept) (lasts : Bool) → given after lasts
      → AddsKept old after new.history
  -- it makes at most these writes and syncs, however it ends
  pub brief : keeps_word → MakesAtMost (call_cost old) old new
  pub ends : EndsAs keeps_word given old new failed_before failed_after ending
