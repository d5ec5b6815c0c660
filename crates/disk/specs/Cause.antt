-- A fault has a cause: the device's own count of failures, which no caller can raise.
use Rattle.std.specs.Prelude.{◌≡◌, ◌≤◌, ◌<◌, ◌⊎◌, ◌^◌, ◌-◌, ℕ, Result, OnOk, IsErrOf}
use Rattle.disk.specs.declared.fault.DiskFault.{DiskFault}
use Rattle.disk.specs.declared.fault.DiskFault.TheVariants as faults

-- the count grew, or is full and stays
abbrev pub IsCounted : ℕ → ℕ → Type 0
IsCounted before after = (before < after) ⊎ ((before ≡ 2 ^ 64 - 1) × (after ≡ before))

-- The count never falls. The result is `Fault` only if a fault is counted, and is nothing else if
-- one is: a failure within a call that goes on is reported. The faults of making a device never
-- occur.
pub record HasCause {T : Type 0} (before after : ℕ) (result : Result T DiskFault) : Type 0 where
  pub later : before ≤ after
  pub fault : IsErrOf result faults.Fault → IsCounted before after
  pub ok : OnOk result (after ≡ before)
  pub range : IsErrOf result faults.Range → after ≡ before
  pub not_memory : IsErrOf result faults.Memory → ⊥
  pub not_open : IsErrOf result faults.Open → ⊥
