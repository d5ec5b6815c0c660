-- What the contracts see of a journal: its log. The layout on the device stays inside.
use Rattle.std.specs.Prelude.{ℕ, List, [], ◌∷◌}
use Rattle.disk.specs.declared.update.Update.{Update}
use Rattle.disk.specs.Moments.{seen}
use Rattle.journal.specs.declared.journal.Journal.{Journal}
use Rattle.journal.specs.Layout.{through}
use Rattle.journal.specs.Log.{Log}

-- what waits for a flush is one transaction, if there is one
abbrev pub listed : List Update → List (List Update)
listed [] = []
listed (update ∷ updates) = (update ∷ updates) ∷ []

unfoldable pub log_of : {D : _} {g : _} → Journal D g → Log
log_of {D} {g} journal = record {
  base = through journal.area journal.recorded.targets.items
      (seen (g.history journal.device).now);
  list = listed journal.pending.items;
  is_down = journal.is_down;
  area = journal.area;
  size = g.size journal.device;
  history = g.history journal.device;
}

-- how often its device has failed
unfoldable pub journal_failures : {D : _} {g : _} → Journal D g → ℕ
journal_failures {D} {g} journal = g.failed journal.device

-- the sectors whose content in the base is not at home yet: the gate names them
unfoldable pub recorded_sectors : {D : _} {g : _} → Journal D g → List ℕ
recorded_sectors journal = journal.recorded.targets.items
