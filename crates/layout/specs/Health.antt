-- The state of the device under sectors, and what calls that only read do to it.
use Rattle.std.specs.Prelude.{◌≡◌, ◌⊎◌, ℕ, Bool, true}
use Rattle.disk.specs.Cause.{IsCounted}

pub record Health : Type 0 where
  pub failed : ℕ
  pub is_down : Bool

-- the device was down before, or a failure is counted and it is down from now on
pub record GoesDown (old new : Health) : Type 0 where
  pub down : new.is_down ≡ true
  pub cause : ((old.is_down ≡ true) × (new ≡ old)) ⊎ IsCounted old.failed new.failed

-- a call that only reads, and may be refused because of the device: if it is refused, the device
-- failed; if not, it did not
pub record FailsOrStays (old new : Health) (faulted : Type 0) : Type 0 where
  pub fails : faulted → GoesDown old new
  pub stays : (faulted → ⊥) → new ≡ old
