-- What is kept in memory of what the gate names.
use Rattle.std.specs.Prelude.{◌≡◌, ◌≤◌, vec_capacity}
use Rattle.disk.specs.Moments.{History, seen}
use Rattle.journal.specs.declared.layout.LogArea.{LogArea}
use Rattle.journal.specs.declared.recorded.Recorded.{Recorded}
use Rattle.journal.specs.Behind.{FitsGate}
use Rattle.journal.specs.Index.{IsIndexOf}
use Rattle.journal.specs.Layout.{copies, targets}
use Rattle.journal.specs.Phase.{IsGated}

-- targets that one gate can name, room for as many as it ever can, and the index of the updates
pub record HasRoom (area : LogArea) (recorded : Recorded) : Type 0 where
  pub fits : FitsGate area recorded.targets.items
  pub room : area.sectors ≤ vec_capacity recorded.targets
  pub updates_room : area.sectors ≤ vec_capacity recorded.updates
  pub index_room : area.sectors ≤ vec_capacity recorded.index.entries
  pub indexed : IsIndexOf recorded.index.entries.items (targets recorded.updates.items)

-- and updates of these sectors
pub record FitsRecorded (area : LogArea) (recorded : Recorded) : Type 0 where
  pub has : HasRoom area recorded
  pub named : targets recorded.updates.items ≡ recorded.targets.items

-- all is fixed, the commit record is set for these targets, and the log has their contents
pub record IsStored (area : LogArea) (recorded : Recorded) (h : History) : Type 0 where
  pub gated : IsGated recorded.targets.items h
  pub payload : copies (seen h.now) area.first recorded.targets.items ≡ recorded.updates.items
