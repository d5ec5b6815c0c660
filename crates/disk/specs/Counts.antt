-- What a device over a file counts of its calls, and remembers of the last that failed.
use Rattle.std.specs.Prelude.{◌≡◌, ◌+◌, ◌-◌, ◌^◌, ℕ, min, Option, Some, None, Result, IsErrOf}
use Rattle.disk.specs.declared.counts.Counts.{Counts}
use Rattle.disk.specs.declared.counts.Failure.{Failure}
use Rattle.disk.specs.declared.fault.DiskFault.{DiskFault}
use Rattle.disk.specs.declared.fault.DiskFault.TheVariants as faults
use Rattle.disk.specs.declared.faulty.CallKind.{CallKind}
use Rattle.disk.specs.declared.faulty.CallKind.TheVariants.{Read, Write, Sync}

abbrev pub no_calls : Counts
no_calls = record { reads = 0; writes = 0; syncs = 0 }

-- one more, as far as a count goes
abbrev pub one_more : ℕ → ℕ
one_more count = min (count + 1) (2 ^ 64 - 1)

-- the counts with one more call of this kind
abbrev pub counted : CallKind → Counts → Counts
counted Read counts = record counts { reads = one_more counts.reads }
counted Write counts = record counts { writes = one_more counts.writes }
counted Sync counts = record counts { syncs = one_more counts.syncs }

-- the kind of the call that failed, if one did
abbrev pub failed_call : Option Failure → Option CallKind
failed_call None = None
failed_call (Some failure) = Some failure.call

-- What is remembered after a call of this kind: the call itself if it failed, and otherwise what
-- was remembered before.
pub record Remembers {T : Type 0} (call : CallKind) (old new : Option Failure)
    (result : Result T DiskFault) : Type 0 where
  pub failed : IsErrOf result faults.Fault → failed_call new ≡ Some call
  pub others : (IsErrOf result faults.Fault → ⊥) → new ≡ old
