-- What the contracts see of a device over a file: nothing of what the file holds.
use Rattle.std.specs.Prelude.{◌≡◌, ◌⊎◌, ℕ, List, Bool, Option, None, Result, Err, IsErrOf}
use Rattle.disk.specs.declared.counts.Counts.{Counts}
use Rattle.disk.specs.declared.counts.Failure.{Failure}
use Rattle.disk.specs.declared.file.FileDevice.{FileDevice}
use Rattle.disk.specs.declared.faulty.CallKind.{CallKind}
use Rattle.disk.specs.Counts.{no_calls, counted, Remembers}
use Rattle.disk.specs.Run.{newest_in, RunTakes}
use Rattle.disk.specs.declared.fault.DiskFault.{DiskFault}
use Rattle.disk.specs.declared.fault.DiskFault.TheVariants.{Memory, Open, Range}

abbrev pub file_size : FileDevice → ℕ
file_size device = device.sectors

abbrev pub file_failures : FileDevice → ℕ
file_failures device = device.failures

abbrev pub file_is_whole : FileDevice → Bool
file_is_whole device = device.is_whole

abbrev pub file_may_write : FileDevice → Bool
file_may_write device = device.may_write

abbrev pub file_counts : FileDevice → Counts
file_counts device = device.counts

abbrev pub file_last_failure : FileDevice → Option Failure
file_last_failure device = device.last_failure

-- the content of sector n that was written and not yet handed to the file, if there is one
abbrev pub gathered : FileDevice → ℕ → Option (List ℕ)
gathered device n = newest_in device.run n

-- sector n is gathered as before, or no longer
abbrev pub KeepsOrHandsOver : FileDevice → FileDevice → ℕ → Type 0
KeepsOrHandsOver old new n = (gathered new n ≡ gathered old n) ⊎ (gathered new n ≡ None)

-- any sector may be gathered next
abbrev pub BeginsAnew : FileDevice → Type 0
BeginsAnew device = (n : ℕ) → RunTakes device.run n

-- opening a file fails for lack of memory, or because it cannot be opened
abbrev pub IsUnopened : Result FileDevice DiskFault → Type 0
IsUnopened result = (result ≡ Err Memory) ⊎ (result ≡ Err Open)

-- no call has come yet
abbrev pub IsUncalled : FileDevice → Type 0
IsUncalled device = (file_counts device ≡ no_calls) × (file_last_failure device ≡ None)

-- A call of this kind is counted, except one for a sector that the device does not have. If it
-- failed, it is the one that is remembered.
pub record Notes {T : Type 0} (call : CallKind) (old new : FileDevice) (result : Result T DiskFault)
    : Type 0 where
  pub counts : (IsErrOf result Range → ⊥) → file_counts new ≡ counted call (file_counts old)
  pub range : IsErrOf result Range → file_counts new ≡ file_counts old
  pub failure : Remembers call (file_last_failure old) (file_last_failure new) result
