-- What the result of a check of a volume says: what a mount would find, with nothing written.
use Rattle.std.specs.Prelude.{ℕ, ⊤, List, Result, Ok, Err, ◌≡◌, ◌≢◌, ◌≤◌, IfOk, IfErr, IsErrOf}
use Rattle.disk.specs.Cause.{IsCounted}
use Rattle.disk.specs.Moments.{History, seen}
use Rattle.layout.specs.Stands.{Kept, number_of_version}
use Rattle.volume.specs.MountAnswers.{first_verdict, NoTree}
use Rattle.volume.specs.Stands.{StandsFor}
use Rattle.volume.specs.Superblock.{superblock, mount_verdict, version_in, word}
use Rattle.volume.specs.declared.checking.Checked.{Checked}
use Rattle.volume.specs.declared.fault.MountFault.{MountFault}
use Rattle.volume.specs.declared.fault.MountFault.TheVariants as mounts
use Rattle.volume.specs.declared.mount.Superblock.{Superblock}
use Rattle.volume.specs.declared.superblock.Verdict.TheVariants as verdicts

-- what the first sector says of a volume, whether one more mount of it can be counted or not
abbrev pub IsSeen : (sectors : ℕ) → (sector : List ℕ) → Result Superblock MountFault → Type 0
IsSeen sectors sector (Ok found) =
    (mount_verdict sectors sector ≢ verdicts.NotVolume)
    × (sector ≡ superblock found.version found.sectors found.nodes found.run)
IsSeen sectors sector (Err mounts.NotVolume) = mount_verdict sectors sector ≡ verdicts.NotVolume
IsSeen sectors sector (Err mounts.Damaged) =
    (mount_verdict sectors sector ≢ verdicts.NotVolume)
    × (sector ≢ superblock (version_in sector) sectors (word 16 sector) (word 20 sector))
IsSeen sectors sector (Err mounts.Worn) = ⊥
IsSeen sectors sector (Err mounts.Memory) = ⊥
IsSeen sectors sector (Err mounts.Device) = ⊤

-- What the device settles to holds a tree and seats, with these numbers of sectors and nodes and
-- under this restart count, which may be full.
pub record HasChecked (sectors : ℕ) (old : History) (checked : Checked) : Type 0 where
  pub first : first_verdict sectors old ≢ verdicts.NotVolume
  pub sectors_are : checked.sectors ≡ sectors
  pub version : checked.version ≡ number_of_version (version_in (seen old.now 0))
  pub kept : Kept
  pub stands : StandsFor sectors checked.nodes checked.count kept (seen old.now)

-- A check that is refused: a full count does not matter to it. Damaged comes after NotVolume,
-- because of the first sector or of what follows it.
abbrev pub FailsCheck : (sectors : ℕ) → (old : History) → MountFault → Type 0
FailsCheck sectors old mounts.NotVolume =
    (first_verdict sectors old ≡ verdicts.NotVolume) × NoTree sectors old
FailsCheck sectors old mounts.Damaged =
    (first_verdict sectors old ≢ verdicts.NotVolume) × NoTree sectors old
FailsCheck sectors old mounts.Worn = ⊥
FailsCheck sectors old mounts.Memory = ⊤
FailsCheck sectors old mounts.Device = ⊤

-- A check writes nothing, on any device. It never returns Worn, and returns Device exactly if a
-- failure was counted.
pub record Checks {D : Type 0} (keeps_word : Type 0) (size failed : D → ℕ) (history : D → History)
    (old new : D) (result : Result Checked MountFault) : Type 0 where
  pub ok : keeps_word → IfOk result (HasChecked (size old) (history old))
  pub err : keeps_word → IfErr result (FailsCheck (size old) (history old))
  pub never_worn : IsErrOf result mounts.Worn → ⊥
  pub cause : IsErrOf result mounts.Device → IsCounted (failed old) (failed new)
  pub none : (IsErrOf result mounts.Device → ⊥) → failed new ≡ failed old
  pub untouched : history new ≡ history old
  pub later : failed old ≤ failed new
  pub same_size : size new ≡ size old
