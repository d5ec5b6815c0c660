-- A device of which one call fails.
use Rattle.std.specs.Prelude.{◌≡◌, ◌+◌, ◌-◌, ◌^◌, ℕ, zero, suc, Bool, true, false, min, Option, Some, None, Result, Err, if◌then◌else◌}
use Rattle.disk.specs.declared.fault.DiskFault.{DiskFault}
use Rattle.disk.specs.declared.fault.DiskFault.TheVariants.{Fault}
use Rattle.disk.specs.declared.faulty.CallKind.{CallKind}
use Rattle.disk.specs.declared.faulty.CallKind.TheVariants.{Read, Write, Sync}
use Rattle.disk.specs.declared.faulty.FaultDevice.{FaultDevice}
use Rattle.disk.specs.declared.faulty.Plan.{Plan}
use Rattle.disk.specs.Cause.{HasCause}

abbrev pub inner_of : {D : Type 0} → FaultDevice D → D
inner_of device = device.inner

abbrev pub plan_of : {D : Type 0} → FaultDevice D → Plan
plan_of device = device.plan

abbrev pub is_kind : CallKind → CallKind → Bool
is_kind Read Read = true
is_kind Write Write = true
is_kind Sync Sync = true
is_kind _ _ = false

-- whether nothing comes before it
abbrev pub is_first : Option ℕ → Bool
is_first (Some zero) = true
is_first (Some (suc before)) = false
is_first None = false

-- with one fewer before it; none once it has come
abbrev pub one_less : Option ℕ → Option ℕ
one_less (Some zero) = None
one_less (Some (suc before)) = Some before
one_less None = None

-- whether the next call of this kind is the one that fails
abbrev pub fails_next : Plan → CallKind → Bool
fails_next plan kind = if is_kind kind plan.kind then is_first plan.before else false

-- the plan after a call of this kind
abbrev pub after : Plan → CallKind → Plan
after plan kind = record {
  kind = plan.kind;
  before = if is_kind kind plan.kind then one_less plan.before else plan.before;
}

-- the inner device's failures, and one more once the call of the plan has come
abbrev pub faulty_failures : ℕ → Plan → ℕ
faulty_failures inner plan = min (inner + own plan.before) (2 ^ 64 - 1) where
  own : Option ℕ → ℕ
  own (Some before) = 0
  own None = 1

-- A call of this kind. The one that fails is a fault, and leaves the inner device as it was. Any
-- other is the inner device's: the cause of its result is in that device's own count.
pub record GoesByPlan {D T : Type 0} (failed : D → ℕ) (kind : CallKind) (old new : FaultDevice D)
    (result : Result T DiskFault) : Type 0 where
  pub fails : fails_next (plan_of old) kind ≡ true
      → (result ≡ Err Fault) × (inner_of new ≡ inner_of old)
  pub others : fails_next (plan_of old) kind ≡ false
      → HasCause (failed (inner_of old)) (failed (inner_of new)) result
  pub plan : plan_of new ≡ after (plan_of old) kind
