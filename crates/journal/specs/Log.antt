-- What a journal is to its caller: a base, an ordered list of transactions that a crash may still
-- take away from its end, and the moments of its device.
use Rattle.std.specs.Prelude.{◌≡◌, ◌≤◌, ◌↔◌, ℕ, Bool, true, false, List, [], ◌∷◌, ◌++◌, ◌+◌, length, take, drop, Result, IsErrOf}
use Rattle.disk.specs.declared.update.Update.{Update}
use Rattle.disk.specs.Moments.{Image, History, Left, AddsOnly, applied, moment}
use Rattle.disk.specs.Cause.{IsCounted}
use Rattle.journal.specs.declared.fault.JournalFault.{JournalFault}
use Rattle.journal.specs.declared.fault.JournalFault.TheVariants as faults
use Rattle.journal.specs.declared.layout.LogArea.{LogArea}
use Rattle.journal.specs.Settled.{AreSame, Settles}

pub record Log : Type 0 where
  pub base : Image
  pub list : List (List Update)
  pub is_down : Bool
  pub area : LogArea
  pub size : ℕ
  pub history : History

-- an image with transactions applied, the first of the list first
abbrev pub applied_all : List (List Update) → Image → Image
applied_all [] image = image
applied_all (updates ∷ list) image = applied_all list (applied updates image)

-- what reads give
abbrev pub contents : Log → Image
contents log = applied_all log.list log.base

-- an image settles to a base with a prefix of a list of transactions
pub record StandsForPrefix (area : LogArea) (base : Image) (list : List (List Update))
    (image : Image) : Type 0 where
  pub count : ℕ
  pub within : count ≤ length list
  pub settles : Settles area image (applied_all (take count list) base)

-- at every moment since, an image left is one left before, or the old base with a prefix of the old
-- list
abbrev pub AddsPrefixes : Log → Log → Type 0
AddsPrefixes old new = AddsOnly (StandsForPrefix old.area old.base old.list) old.history new.history

-- what a crash leaves now settles to the base: none of the list is lost that ever went into it
abbrev pub IsSettled : Log → Type 0
IsSettled log = (image : Image) → Left log.history.now image → Settles log.area image log.base

-- a transaction that does what these do, one after the other
abbrev pub DoesAs : List Update → List (List Update) → Type 0
DoesAs updates list = (image : Image) (n : ℕ) → applied updates image n ≡ applied_all list image n

-- The list, in which neighbours may have become one: each transaction of the joined list does what
-- the next ones of the list do, and what is left after the last one alters nothing. So each prefix
-- of the joined list does what a prefix of the list does.
abbrev pub IsJoined : List (List Update) → List (List Update) → Type 0
IsJoined list [] = DoesAs [] list
IsJoined list (updates ∷ joined) = (count : ℕ) × (count ≤ length list)
    × DoesAs updates (take count list) × IsJoined (drop count list) joined

-- of all these transactions the first ones went into the base, and the list is the rest, joined
pub record Moved (all : List (List Update)) (old new : Log) : Type 0 where
  pub count : ℕ
  pub within : count ≤ length all
  pub base : AreSame old.area.end (applied_all (take count all) old.base) new.base
  pub list : IsJoined (drop count all) new.list

-- one more transaction was put at the list's end, and nothing else happened
pub record ListTakes (updates : List Update) (old new : Log) : Type 0 where
  pub list : IsJoined (old.list ++ updates ∷ []) new.list
  pub only : new ≡ record old { list = new.list }

-- `count` writes and syncs were done
abbrev pub Costs : ℕ → Log → Log → Type 0
Costs count old new = moment new.history ≡ moment old.history + count

-- at most `count` writes and syncs were done
abbrev pub MakesAtMost : ℕ → Log → Log → Type 0
MakesAtMost count old new = moment new.history ≤ moment old.history + count

-- how the result of a call depends on its device: Down exactly if the journal was down, and then
-- nothing happens; Fault exactly if the device counted a failure, and then the journal is down;
-- otherwise it is not
pub record AnswersByDevice {T : Type 0} (old new : Log) (before after : ℕ)
    (result : Result T JournalFault) : Type 0 where
  pub down : IsErrOf result faults.Down ↔ (old.is_down ≡ true)
  pub untouched : IsErrOf result faults.Down → (new ≡ old) × (after ≡ before)
  pub later : before ≤ after
  pub counted : IsErrOf result faults.Fault → IsCounted before after
  pub none : (IsErrOf result faults.Fault → ⊥) → after ≡ before
  pub goes_down : IsErrOf result faults.Fault → new.is_down ≡ true
  pub stays_up : old.is_down ≡ false → (IsErrOf result faults.Fault → ⊥) → new.is_down ≡ false
