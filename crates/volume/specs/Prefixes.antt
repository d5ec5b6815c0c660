use Rattle.std.specs.Prelude.{List, [], ◌∷◌, ◌++◌, ◌≡◌}
use Rattle.disk.specs.declared.update.Update.{Update}
use Rattle.disk.specs.Moments.{History, AddsOnly, applied}
use Rattle.journal.specs.Log.{Log, StandsForPrefix, applied_all}
use Rattle.layout.specs.Stands.{Kept, StandsNow, log_by}
use Rattle.volume.specs.VolumeState.{VolumeState, IsRecent, AddsKept, prefixes_from}

pub record IsOver (held : VolumeState) (log : Log) : Type 0 where
  pub size : held.sectors ≡ log.size
  pub area : log.area ≡ log_by held.version log.size
  pub history : held.history ≡ log.history
  pub prefixes : held.prefixes ≡ prefixes_from log.base log.list

-- with these updates after its list, the journal gives sectors that hold this
abbrev pub StandsUpdated : VolumeState → Log → List Update → (after : Kept) → Type 0
StandsUpdated held log updates after = ∥ StandsNow held.version held.sectors held.limits.nodes
    (applied updates (applied_all log.list log.base)) held.run after ∥₁

abbrev pub KeepsPrefixes : Type 0
KeepsPrefixes =
    (held : VolumeState) (log : Log) (updates : List Update) (after : Kept) (new : History)
    → IsOver held log
    → StandsUpdated held log updates after
    → AddsOnly (StandsForPrefix log.area log.base (log.list ++ updates ∷ [])) log.history new
    → AddsKept held after new

abbrev pub AppliedRecent : Type 0
AppliedRecent = (held : VolumeState) (log : Log) (updates : List Update) (after : Kept)
    (recent : List Kept) → IsOver held log
    → StandsUpdated held log updates after
    → IsRecent held recent
    → IsRecent (record held {
      tree = after.tree;
      seats = after.seats;
      prefixes = prefixes_from log.base (log.list ++ updates ∷ []);
    }) (after ∷ recent)
