-- What contracts see of a mounted volume.
use Rattle.std.specs.Prelude.{ℕ, List, Option}
use Rattle.disk.specs.declared.device.Device.{Ghosts}
use Rattle.journal.specs.Journal.{log_of, journal_failures}
use Rattle.journal.specs.Log.{Log, contents}
use Rattle.layout.specs.CachedNodes.{CachedNode, tree_of}
use Rattle.layout.specs.Stands.{seats_at}
use Rattle.layout.specs.declared.versions.VersionNumber.{VersionNumber}
use Rattle.model_tree.specs.declared.limits.Limits.{Limits}
use Rattle.volume.specs.Changes.{Given, Ending, VolumeChanges}
use Rattle.volume.specs.MountAnswers.{MountServes}
use Rattle.volume.specs.VolumeState.{VolumeState, prefixes_from}
use Rattle.volume.specs.declared.volume.Volume.{Volume}

-- what is seen of these nodes over a journal
abbrev pub volume_state_by : VersionNumber → Limits → (run : ℕ) → List (Option CachedNode) → Log
    → VolumeState
volume_state_by version limits run cached_nodes log = record {
  version = version;
  limits = limits;
  run = run;
  tree = tree_of (contents log) cached_nodes;
  seats = seats_at version (contents log);
  is_down = log.is_down;
  sectors = log.size;
  history = log.history;
  prefixes = prefixes_from log.base log.list;
}

unfoldable pub volume_state : {D : _} {g : _} → Volume D g → VolumeState
volume_state volume =
    volume_state_by volume.version volume.limits volume.run volume.table (log_of volume.store.journal)

-- how often its device has failed
unfoldable pub volume_failures : {D : _} {g : _} → Volume D g → ℕ
volume_failures volume = journal_failures volume.store.journal

-- what a call does to it, and to how often its device has failed
abbrev pub AltersVolume : {D : _} {g : _} → (old new : Volume D g) → Given → Ending → Type 0
AltersVolume {D} {g} old new given ending =
    VolumeChanges g.keeps_word given (volume_state old) (volume_state new)
    (volume_failures old) (volume_failures new) ending

-- what a mount of this device serves
abbrev pub MountsVolume : {D : Type 0} {g : Ghosts D} → (device : D) → Volume D g → Type 0
MountsVolume {D} {g} device volume = MountServes g.keeps_word g.size g.failed g.history device
    (volume_state volume) (volume_failures volume)
