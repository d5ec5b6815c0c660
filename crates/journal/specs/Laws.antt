-- What a call of a journal leaves, whatever it returned: also if the device failed in it.
use Rattle.std.specs.Prelude.{◌≤◌, ◌<◌, ◌^◌, List, ℕ, length, take}
use Rattle.disk.specs.declared.update.Update.{Update}
use Rattle.disk.specs.Moments.{Image, Left}
use Rattle.journal.specs.Layout.{IsArea}
use Rattle.journal.specs.Log.{Log, AddsPrefixes, IsSettled, StandsForPrefix, applied_all}
use Rattle.journal.specs.MountAnswers.{HasRecovered}
use Rattle.journal.specs.Settled.{AreSame}

-- a base is that of a journal with a prefix of its list
pub record IsListPrefix (end : ℕ) (base : Image) (list : List (List Update)) (found : Image)
    : Type 0 where
  pub count : ℕ
  pub within : count ≤ length list
  pub same : AreSame end (applied_all (take count list) base) found

-- what a crash leaves after a call is a prefix of what the journal was, one that holds all that was
-- flushed before
abbrev pub CrashLeavesPrefix : Type 0
CrashLeavesPrefix = (old new : Log) → IsSettled old → AddsPrefixes old new
    → (image : Image) → Left new.history.now image
    → StandsForPrefix old.area old.base old.list image

-- and a mount of the device as the call left it, without a crash, finds one too
abbrev pub EveryMount : Type 0
EveryMount = (old new found : Log) → IsArea old.area → old.area.end < 2 ^ 32 → IsSettled old
    → AddsPrefixes old new → HasRecovered old.area new.history found
    → IsListPrefix old.area.end old.base old.list found.base
