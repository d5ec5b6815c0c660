-- What the result of a look at a device without a mount says.
use Rattle.std.specs.Prelude.{ℕ, List, [], false, ◌≡◌, ◌≤◌, ◌<◌, ◌⊎◌}
use Rattle.disk.specs.Cause.{IsCounted}
use Rattle.disk.specs.Moments.{Image, History, IsSector, seen}
use Rattle.journal.specs.declared.fault.JournalFault.{JournalFault}
use Rattle.journal.specs.declared.fault.JournalFault.TheVariants as faults
use Rattle.journal.specs.declared.layout.LogArea.{LogArea}
use Rattle.journal.specs.Layout.{through}
use Rattle.journal.specs.Log.{Log}
use Rattle.journal.specs.Settled.{Settles}

-- the log of a journal in which nothing waits, and whose base is read through a gate of these
-- targets
abbrev pub viewed : (area : LogArea) → (to : List ℕ) → (size : ℕ) → History → Log
viewed area to size h = record {
  base = through area to (seen h.now);
  list = [];
  is_down = false;
  area = area;
  size = size;
  history = h;
}

-- the base is what the device settles to, sectors of bytes
pub record HasViewed (area : LogArea) (old : History) (log : Log) : Type 0 where
  pub base : Settles area (seen old.now) log.base
  pub sectors : (n : ℕ) → n < log.size → IsSector (log.base n)

-- the gate has no form
abbrev pub HasNoForm : (area : LogArea) → History → Type 0
HasNoForm area old = (settled : Image) → Settles area (seen old.now) settled → ⊥

-- A device of which there is no view, as it was: Fault is returned exactly if it counted a failure.
pub record IsUnread {D : Type 0} (size failed : D → ℕ) (history : D → History) (old new : D)
    (fault : JournalFault) : Type 0 where
  pub same_history : history new ≡ history old
  pub same_size : size new ≡ size old
  pub later : failed old ≤ failed new
  pub counted : fault ≡ faults.Fault → IsCounted (failed old) (failed new)
  pub none : (fault ≡ faults.Fault → ⊥) → failed new ≡ failed old
  pub reasons : (fault ≡ faults.Fault) ⊎ ((fault ≡ faults.Damaged) ⊎ (fault ≡ faults.Memory))
