-- What the calls of a journal do to its log.
use Rattle.std.specs.Prelude.{ℕ, false, List, [], ◌∷◌, ◌++◌, ◌+◌, ◌*◌, ◌≡◌, length, Result, is_err}
use Rattle.disk.specs.declared.update.Update.{Update}
use Rattle.disk.specs.Moments.{applied, put}
use Rattle.journal.specs.Commit.{AddsEither}
use Rattle.journal.specs.Behind.{way_cost, way_for}
use Rattle.journal.specs.declared.layout.LogArea.{LogArea}
use Rattle.journal.specs.Log.{Log, AddsPrefixes, Costs, IsJoined, IsSettled, MakesAtMost, Moved, ListTakes, contents}
use Rattle.journal.specs.Phase.{FailsCounted}
use Rattle.journal.specs.Settled.{AreSame}
use Rattle.journal.specs.Transactions.{FitTogether, sectors_of}

-- Whatever a call returns: a crash within it leaves a prefix of the list, and if the journal is
-- still up, one after it leaves the base. It takes no more writes and syncs than to copy home all
-- that the commit record can name, and to commit as much.
pub record IsSafe (keeps_word : Type 0) (old new : Log) : Type 0 where
  pub area : new.area ≡ old.area
  pub size : new.size ≡ old.size
  pub moments : keeps_word → AddsPrefixes old new
  pub brief : keeps_word → MakesAtMost (2 * (old.area.sectors + 3)) old new
  pub settled : keeps_word → new.is_down ≡ false → IsSettled new

-- the list with one transaction more
abbrev pub list_with : Log → List Update → List (List Update)
list_with log updates = log.list ++ updates ∷ []

-- A transaction was put at the list's end. If the payload has no room for the two together, the
-- list went into the base first.
pub record HasApplied (keeps_word : Type 0) (updates : List Update) (old new : Log) : Type 0 where
  pub kept : FitTogether old.area (list_with old updates) → ListTakes updates old new
  pub flushed : (FitTogether old.area (list_with old updates) → ⊥)
      → IsJoined (updates ∷ []) new.list
  pub moved : keeps_word → Moved (list_with old updates) old new
  pub contents : keeps_word → AreSame old.area.end (applied updates (contents old)) (contents new)

-- The whole list went into the base.
pub record HasFlushed (keeps_word : Type 0) (old new : Log) : Type 0 where
  pub emptied : new.list ≡ []
  pub ok : keeps_word → AreSame old.area.end (contents old) new.base
  pub contents : keeps_word → AreSame old.area.end (contents old) (contents new)

-- What it costs to take a list into the base: its sectors are written to the payload, with a sync,
-- and named in the commit record, with a sync, once there is a way for them. An empty list costs
-- nothing.
abbrev pub flush_cost : LogArea → List ℕ → List ℕ → ℕ
flush_cost area shown [] = 0
flush_cost area shown (sector ∷ sectors) =
    way_cost area shown (sector ∷ sectors) + (length (sector ∷ sectors) + 3)

-- The whole list was committed: the commit record names its sectors from then on.
pub record GoesThrough (keeps_word : Type 0) (was now : List ℕ) (old new : Log) : Type 0 where
  pub shown : now ≡ way_for old.area was (sectors_of old.list) ++ sectors_of old.list
  pub cost : keeps_word → Costs (flush_cost old.area was (sectors_of old.list)) old new

-- If the payload has no room for a list and this transaction together, the list was committed;
-- otherwise the commit record is as it was.
pub record GoesThroughFirst (keeps_word : Type 0) (updates : List Update) (was now : List ℕ)
    (old new : Log) : Type 0 where
  pub kept : FitTogether old.area (list_with old updates) → now ≡ was
  pub flushed : (FitTogether old.area (list_with old updates) → ⊥)
      → GoesThrough keeps_word was now old new

-- What it costs to copy home what the commit record names: each of its sectors, a sync, the cleared
-- record, and a sync. A record that is cleared already costs nothing.
abbrev pub checkpoint_cost : List ℕ → ℕ
checkpoint_cost [] = 0
checkpoint_cost (sector ∷ sectors) = length (sector ∷ sectors) + 3

-- What the commit record named is at home. The base is as it was, and what waits still waits.
pub record HasCheckpointed (keeps_word : Type 0) (shown : List ℕ) (old new : Log) : Type 0 where
  pub base : keeps_word → AreSame old.area.end old.base new.base
  pub contents : keeps_word → AreSame old.area.end (contents old) (contents new)
  pub cost : keeps_word → Costs (checkpoint_cost shown) old new

-- sector 0 with this content
abbrev pub first_sector : List ℕ → Update
first_sector content = record { target = 0; content = content }

-- at every moment since, an image left is one left before, or settles to the old base, with this
-- sector 0 or without it
abbrev pub AddsFirst : List ℕ → Log → Log → Type 0
AddsFirst content old new =
    AddsEither old.area (first_sector content ∷ []) old.base old.history new.history

-- Sector 0 was written, and no crash loses it.
pub record HasWritten (keeps_word : Type 0) (content : List ℕ) (old new : Log) : Type 0 where
  pub ok : keeps_word → AreSame old.area.end (put old.base (first_sector content)) new.base
  pub contents : keeps_word
      → AreSame old.area.end (put (contents old) (first_sector content)) (contents new)
  pub settled : keeps_word → IsSettled new
  pub cost : keeps_word → Costs 2 old new

-- A part of a call on a journal that is up, which goes down exactly if the part fails.
pub record IsPart {T E : Type 0} (keeps_word : Type 0) (old new : Log) (before after : ℕ)
    (result : Result T E) : Type 0 where
  pub moments : keeps_word → AddsPrefixes old new
  pub brief : keeps_word → MakesAtMost (2 * (old.area.sectors + 3)) old new
  pub area : new.area ≡ old.area
  pub size : new.size ≡ old.size
  pub is_down : new.is_down ≡ is_err result
  pub failures : FailsCounted before after result
