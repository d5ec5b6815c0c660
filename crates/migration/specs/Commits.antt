-- The effects of transactions that are flushed one by one.
use Rattle.std.specs.Prelude.{◌≤◌, ◌*◌, ℕ, List, length}
use Rattle.std.specs.List.{AllByRecursion}
use Rattle.disk.specs.declared.update.Update.{Update}
use Rattle.disk.specs.Moments.{AddsOnly}
use Rattle.journal.specs.Layout.{AreTargets, targets}
use Rattle.journal.specs.Log.{Log, MakesAtMost, StandsForPrefix, applied_all}
use Rattle.journal.specs.Settled.{AreSame}
use Rattle.migration.specs.Migrations.{Rests, StaysInPlace, transaction_cost}

-- a transaction that a journal accepts wherever its log is, all of it below this end, and a list of
-- them
pub record FitsJournal (end : ℕ) (updates : List Update) : Type 0 where
  pub few : length updates ≤ 48
  pub fit : AreTargets end (targets updates)

abbrev pub AreTransactions : (end : ℕ) → List (List Update) → Type 0
AreTransactions end list = AllByRecursion (FitsJournal end) list

-- However it ends: at every moment since, an image that a crash leaves is one that it could leave
-- before, or settles to the base with a prefix of these transactions. Each of them costs at most as
-- much as one flush.
pub record Commits (keeps_word : Type 0) (list : List (List Update)) (old new : Log) : Type
    0 where
  pub place : StaysInPlace old new
  pub moments : keeps_word
      → AddsOnly (StandsForPrefix old.area old.base list) old.history new.history
  pub brief : keeps_word → MakesAtMost (length list * transaction_cost old.area) old new

-- All of them are in the base, and nothing is pending.
pub record HasCommitted (keeps_word : Type 0) (list : List (List Update)) (old new : Log) : Type
    0 where
  pub rests : Rests new
  pub base : keeps_word → AreSame old.area.end (applied_all list old.base) new.base
