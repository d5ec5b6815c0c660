-- What one phase does to a device: it writes some sectors, and then syncs.
use Rattle.std.specs.Prelude.{◌≡◌, ◌≤◌, ◌⊎◌, ◌+◌, ℕ, List, [], length, Result, OnOk, OnErr}
use Rattle.disk.specs.declared.update.Update.{Update}
use Rattle.disk.specs.Moments.{Image, Moment, History, SectorMayHold, Among, AddsOnly, applied, seen, moment}
use Rattle.disk.specs.Cause.{IsCounted}
use Rattle.journal.specs.Layout.{gate}

-- each sector is as a crash at this moment may leave it, or as an update leaves it
abbrev pub LeftWith : List Update → Moment → Image → Type 0
LeftWith updates m image = (n : ℕ) → SectorMayHold m n (image n) ⊎ Among updates n (image n)

-- all is fixed, with the updates applied to what a read gave before; a write for each of them, and
-- a sync
pub record IsFixedAs (updates : List Update) (old new : History) : Type 0 where
  pub fixed : new.now.fixed ≡ applied updates (seen old.now)
  pub unsynced : new.now.unsynced ≡ []
  pub cost : moment new ≡ moment old + (length updates + 1)

-- at every moment since, an image left is one left before, except in sectors with an update's
-- content
abbrev pub AddsUpdates : List Update → History → History → Type 0
AddsUpdates updates old new = AddsOnly (LeftWith updates old.now) old new

-- at most `count` moments came
abbrev pub AddsAtMost : ℕ → History → History → Type 0
AddsAtMost count old new = moment new ≤ moment old + count

-- a failure is one that the device counted, and if nothing failed it counted none
pub record FailsCounted {T E : Type 0} (before after : ℕ) (result : Result T E) : Type 0 where
  pub later : before ≤ after
  pub ok : OnOk result (after ≡ before)
  pub counted : OnErr result (IsCounted before after)

-- all is fixed, and the commit record is set for these targets
pub record IsGated (to : List ℕ) (h : History) : Type 0 where
  pub rests : h.now.unsynced ≡ []
  pub gate_is : seen h.now 1 ≡ gate to
