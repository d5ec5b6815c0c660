-- Options: what the library lacks.
use Rattle.std.proofs.Common.{◌≡◌, false, Option, Some, None, is_some, refl, sym}
use Rattle.std.proofs.lemmas.Bool.{true≢false}
use Rattle.std.proofs.lemmas.Option.{none-some}

pub some≢none : {A : Type 0} (x : A) → Some x ≡ None → ⊥
some≢none x is = none-some x (sym is)

pub none_unless : {A : Type 0} (o : Option A) → ((x : A) → o ≡ Some x → ⊥) → o ≡ None
none_unless None never = refl
none_unless (Some x) never = absurd (never x refl)

pub none_by_test : {A : Type 0} (o : Option A) → is_some o ≡ false → o ≡ None
none_by_test None is = refl
none_by_test (Some x) is = absurd (true≢false is)
