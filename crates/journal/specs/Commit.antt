-- What setting and clearing the commit record do to a device.
use Rattle.std.specs.Prelude.{◌≡◌, ◌≤◌, ◌⊎◌, ◌+◌, ◌++◌, ℕ, List, [], length, vec_capacity}
use Rattle.std.specs.Global.{Vec}
use Rattle.disk.specs.declared.update.Update.{Update}
use Rattle.disk.specs.Moments.{Image, History, AddsOnly, applied, seen, moment, wrote, synced}
use Rattle.journal.specs.declared.layout.LogArea.{LogArea}
use Rattle.journal.specs.Layout.{AreTargets, copies, gate, through, targets}
use Rattle.journal.specs.Behind.{FitsGate, way_cost}
use Rattle.journal.specs.Settled.{AreSame, Settles}
use Rattle.journal.specs.Phase.{IsGated}

-- updates of at most as many sectors as the payload has, all different, by their sectors
pub record FitsPayload (area : LogArea) (to : List ℕ) (updates : List Update) : Type 0 where
  pub named : to ≡ targets updates
  pub few : length updates ≤ area.sectors
  pub fit : AreTargets area.end (targets updates)

-- at every moment since, an image left is one left before, or settles to this base or to it with
-- all of the updates
abbrev pub AddsEither : LogArea → List Update → Image → History → History → Type 0
AddsEither area updates base old new =
    AddsOnly (λ image. Settles area image base ⊎ Settles area image (applied updates base)) old new

-- The gate names the updates' sectors too, and read through it the device is as with them. The
-- payload has their contents behind what it had.
pub record IsRecorded (area : LogArea) (updates : List Update) (was shown : List ℕ)
    (old new : History) : Type 0 where
  pub gated : IsGated shown new
  pub same : AreSame area.end (applied updates (through area was (seen old.now)))
      (through area shown (seen new.now))
  pub payload : copies (seen new.now) area.first shown
      ≡ copies (seen old.now) area.first was ++ updates
  pub cost : moment new ≡ moment old + (length updates + 3)

-- while the payload is copied home, an image left settles to what is read through the gate
abbrev pub KeepsShown : LogArea → List ℕ → History → History → Type 0
KeepsShown area to old new =
    AddsOnly (λ image. Settles area image (through area to (seen old.now))) old new

-- the commit record is cleared, and the device reads as it did through it
pub record IsCopiedHome (area : LogArea) (to : List ℕ) (old new : History) : Type 0 where
  pub gated : IsGated [] new
  pub same : AreSame area.end (through area to (seen old.now)) (seen new.now)
  pub cost : moment new ≡ moment old + (length to + 3)

-- the commit record was written once more for these targets, and synced
abbrev pub rewritten : List ℕ → History → History
rewritten to h = synced (wrote (record { target = 1; content = gate to }) h)

-- There is a way for these targets: through the gate the device reads as it did.
pub record MakesWay (area : LogArea) (to was shown : List ℕ) (old new : History) : Type 0 where
  pub gated : IsGated shown new
  pub same : AreSame area.end (through area was (seen old.now)) (through area shown (seen new.now))
  pub cost : moment new ≡ moment old + way_cost area was to

-- Through the gate the device reads as with the updates. The payload has their contents behind
-- those of the updates that stay.
pub record IsCommitted (area : LogArea) (updates : List Update) (was shown : List ℕ)
    (stay : List Update) (old new : History) : Type 0 where
  pub gated : IsGated shown new
  pub same : AreSame area.end (applied updates (through area was (seen old.now)))
      (through area shown (seen new.now))
  pub payload : copies (seen new.now) area.first shown ≡ stay ++ updates
  pub cost : moment new ≡ moment old + (way_cost area was (targets updates) + (length updates + 3))

-- what is named stays what a gate can name, with the room that there is
pub record KeepsRoom (area : LogArea) (old new : Vec ℕ) : Type 0 where
  pub fits : FitsGate area new.items
  pub capacity : vec_capacity new ≡ vec_capacity old
