-- What the result of a format of a device says: it makes a volume of version 2.
use Rattle.std.specs.Prelude.{ℕ, ◌≡◌, ◌≤◌, ◌⊎◌, ◌↔◌, false, Result, OnOk, IsErrOf}
use Rattle.disk.specs.Cause.{IsCounted}
use Rattle.disk.specs.Moments.{History}
use Rattle.layout.specs.Superblock.{is_size}
use Rattle.layout.specs.declared.versions.VersionNumber.TheVariants.{Two}
use Rattle.volume.specs.Formats.{AddsFresh, LeavesFresh}
use Rattle.volume.specs.declared.fault.FormatFault.{FormatFault}
use Rattle.volume.specs.declared.fault.FormatFault.TheVariants as faults

-- A crash within it leaves what was there, no volume, or the new one, and after Ok only the new
-- one. Size is returned exactly if no volume has such numbers; after Size or Memory nothing was
-- written. Device is returned exactly if a failure was counted.
pub record Formats {D : Type 0} (keeps_word : Type 0) (sectors failed : D → ℕ)
    (history : D → History) (nodes : ℕ) (old new : D) (result : Result (Unit {0}) FormatFault)
    : Type 0 where
  pub moments : keeps_word → AddsFresh Two (sectors old) nodes (history old) (history new)
  pub ok : keeps_word → OnOk result (LeavesFresh Two (sectors old) nodes (history new))
  pub size : IsErrOf result faults.Size ↔ (is_size (sectors old) nodes ≡ false)
  pub untouched : IsErrOf result faults.Size ⊎ IsErrOf result faults.Memory
      → history new ≡ history old
  pub cause : IsErrOf result faults.Device → IsCounted (failed old) (failed new)
  pub none : (IsErrOf result faults.Device → ⊥) → failed new ≡ failed old
  pub later : failed old ≤ failed new
  pub same_size : sectors new ≡ sectors old
