-- The results of calls.
use Rattle.std.proofs.Common.{◌≡◌, ◌≤◌, ℕ, true, false, refl, ap, sym, ◌∙◌, subst, arith, Result, Ok, Err, IsErrOf, is_err}
use Rattle.std.specs.Result.{IsErrAnd}
use Rattle.disk.specs.declared.fault.DiskFault.{DiskFault}
use Rattle.disk.specs.declared.fault.DiskFault.TheVariants.{Range, Fault, Memory, Open}
use Rattle.disk.specs.Cause.{IsCounted, HasCause}
use Rattle.journal.specs.declared.fault.JournalFault.{JournalFault}
use Rattle.journal.specs.declared.fault.JournalFault.TheVariants as faults
use Rattle.journal.specs.Phase.{FailsCounted}
use Rattle.journal.specs.Log.{Log, AnswersByDevice}

pub counted_of : {T : Type 0} (before after : ℕ) (r : Result T DiskFault) → is_err r ≡ true → HasCause before after r → (IsErrOf r Range → ⊥) → IsCounted before after
counted_of before after (Ok x) e c n = absurd (let q : false ≡ true = e in cc)
counted_of before after (Err Range) e c n = absurd (n refl)
counted_of before after (Err Fault) e c n = c.fault refl
counted_of before after (Err Memory) e c n = absurd (c.not_memory refl)
counted_of before after (Err Open) e c n = absurd (c.not_open refl)

pub answers_fault : {T : Type 0} (old new : Log) (before after : ℕ) → old.is_down ≡ false → new.is_down ≡ true → before ≤ after → IsCounted before after
    → AnswersByDevice {T = T} old new before after (Err faults.Fault)
answers_fault old new before after up down later counted = record {
  down = ((λ e. absurd (let q : faults.Fault ≡ faults.Down = cc in cc)), (λ q. absurd (let r : false ≡ true = sym up ∙ q in cc)));
  untouched = λ e. absurd (let q : faults.Fault ≡ faults.Down = cc in cc);
  later = later;
  counted = λ e. counted;
  none = λ n. absurd (n refl);
  goes_down = λ e. down;
  stays_up = λ q n. absurd (n refl);
}

pub answers_down : {T : Type 0} (log : Log) (count : ℕ) → log.is_down ≡ true → AnswersByDevice {T = T} log log count count (Err faults.Down)
answers_down log count down = record {
  down = ((λ e. down), (λ q. refl));
  untouched = λ e. (refl, refl);
  later = omega arith;
  counted = λ e. absurd (cc);
  none = λ n. refl;
  goes_down = λ e. down;
  stays_up = λ up n. absurd (let r : false ≡ true = sym up ∙ down in cc);
}

-- a call on a journal that is up and stays up
pub answers_up : {T : Type 0} (old new : Log) (before after : ℕ) (r : Result T JournalFault) → (r ≡ Err faults.Fault → ⊥) → (r ≡ Err faults.Down → ⊥)
    → old.is_down ≡ false → new.is_down ≡ false → after ≡ before → AnswersByDevice old new before after r
answers_up old new before after r no_fault no_down up stays same = record {
  down = ((λ e. absurd (no_down e)), (λ q. absurd (let w : false ≡ true = sym up ∙ q in cc)));
  untouched = λ e. absurd (no_down e);
  later = omega arith;
  counted = λ e. absurd (no_fault e);
  none = λ n. same;
  goes_down = λ e. absurd (no_fault e);
  stays_up = λ q n. stays;
}

-- the error is the one that was passed on
pub is_told : {T E : Type 0} (r : Result T E) (reason : E) → IsErrAnd r (λ told. told ≡ reason) → r ≡ Err reason
is_told (Ok x) reason e = absurd e
is_told (Err _) reason e = ap (λ f. Err f) e

-- what a fault of the device became
pub is_fault : {T : Type 0} (r : Result T JournalFault) → IsErrAnd r (λ fault. fault ≡ faults.Fault) → r ≡ Err faults.Fault
is_fault r = is_told r faults.Fault

-- a failure after what counted none
pub fails_after : {T U E F : Type 0} (before mid after : ℕ) (e : E) (f : F) → mid ≡ before → FailsCounted {T = U} mid after (Err e) → FailsCounted {T = T} before after (Err f)
fails_after before mid after e f same w =
    let P : ℕ → Type 0 = λ n. IsCounted n after in
    record { later = omega (arith, w.later); ok = tt; counted = subst P same w.counted }

pub never_fails : {T E : Type 0} (before after : ℕ) (x : T) → after ≡ before → FailsCounted {E = E} before after (Ok x)
never_fails before after x same = record { later = omega arith; ok = same; counted = tt }

-- an error that was passed on, and that the device counted
pub told_counted : {T E : Type 0} (before mid after : ℕ) (r : Result T E) (e : E) → r ≡ Err e → mid ≡ before → mid ≤ after → IsCounted mid after
    → FailsCounted before after r
told_counted {T} {E} before mid after r e told same later counted =
    let P : ℕ → Type 0 = λ n. IsCounted n after in
    let Q : Result T E → Type 0 = λ x. FailsCounted before after x in
    subst Q (sym told) (record { later = omega (arith, same, later); ok = tt; counted = subst P same counted })
