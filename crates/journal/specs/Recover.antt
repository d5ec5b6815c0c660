-- What a mount finds and leaves.
use Rattle.std.specs.Prelude.{◌≡◌, ◌≤◌, ◌⊎◌, ◌+◌, ℕ, List, [], ◌∷◌, length, Result, OnOk, OnErr, IfErr, IsErrOf}
use Rattle.disk.specs.Moments.{Image, History, AddsOnly, seen, synced, moment}
use Rattle.disk.specs.Cause.{IsCounted}
use Rattle.journal.specs.declared.fault.JournalFault.{JournalFault}
use Rattle.journal.specs.declared.fault.JournalFault.TheVariants as faults
use Rattle.journal.specs.declared.layout.LogArea.{LogArea}
use Rattle.journal.specs.Settled.{Settles, SettlesAs}
use Rattle.journal.specs.Layout.{gate}
use Rattle.journal.specs.Phase.{AddsAtMost, IsGated}

-- What a mount costs: a sync; and if the commit record names sectors, the record again, a sync,
-- each of these sectors, a sync, the cleared record, and a sync.
abbrev pub recovery_cost : List ℕ → ℕ
recovery_cost [] = 1
recovery_cost (sector ∷ sectors) = length (sector ∷ sectors) + 6

-- The commit record is cleared, and the device reads as what it settled to. From the first sync on
-- each image left settles to that.
pub record Recovers (area : LogArea) (old new : History) : Type 0 where
  pub gated : IsGated [] new
  pub settles : Settles area (seen old.now) (seen new.now)
  pub since_sync : AddsOnly (SettlesAs area (seen old.now)) (synced old) new
  pub cost : moment new ≡ moment old + recovery_cost settles.to

-- the commit record of what a read gives is cleared
abbrev pub IsClosed : History → Type 0
IsClosed h = seen h.now 1 ≡ gate []

-- nothing was written: one sync, if all went well
pub record WritesNothing {T E : Type 0} (old new : History) (result : Result T E) : Type 0 where
  pub ok : OnOk result (new ≡ synced old)
  pub err : OnErr result ((new ≡ old) ⊎ (new ≡ synced old))

-- the gate had no form, and nothing was written
pub record LeavesOnlySynced (area : LogArea) (old new : History) : Type 0 where
  pub formless : (settled : Image) → Settles area (seen old.now) settled → ⊥
  pub only_synced : new ≡ synced old

-- what a replay did that began with the sync of this history
pub record Replays {T : Type 0} (area : LogArea) (before new : History)
    (result : Result T JournalFault) : Type 0 where
  pub moments : AddsOnly (SettlesAs area (seen before.now)) before new
  pub brief : AddsAtMost (area.sectors + 6) before new
  pub ok : OnOk result (Recovers area before new)
  pub closed : IsClosed before → WritesNothing before new result
  pub damaged : IsErrOf result faults.Damaged → LeavesOnlySynced area before new

-- a mount's failures: of the device, which counted it, or the gate's, and then it counted none
pub record FaultsCounted {T : Type 0} (before after : ℕ) (result : Result T JournalFault)
    : Type 0 where
  pub later : before ≤ after
  pub counted : IsErrOf result faults.Fault → IsCounted before after
  pub none : (IsErrOf result faults.Fault → ⊥) → after ≡ before
  pub only : IfErr result (λ fault. (fault ≡ faults.Fault) ⊎ (fault ≡ faults.Damaged))
