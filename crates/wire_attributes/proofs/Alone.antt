-- A write with nothing after it.
use Rattle.std.proofs.Common.{ℕ, List, [], ◌++◌, Result, sym, subst}
use Rattle.std.proofs.lemmas.List.{append-nil}
use Rattle.xdr.specs.declared.refusal.Refusal.{Refusal}
use Rattle.xdr.specs.Clauses.{Written, Wrote}

pub wrote_alone : {a b : Written} {r : Result (Unit {0}) Refusal} {t : List ℕ} → Wrote a b r t → Wrote a b r (t ++ [])
wrote_alone {a = a} {b = b} {r = r} {t = t} w = subst (λ (x : List ℕ). Wrote a b r x) (sym (append-nil t)) w
