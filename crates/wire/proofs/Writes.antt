-- The writes of a function, one after the other, as its steps give them: with `writes`, `search`
-- finds the steps.
use Rattle.std.proofs.Common.{◌≡◌, List, ℕ, ◌++◌, Result, Continue, Break, ap, subst, ◌∙◌}
use Rattle.std.specs.Result.{IsErrAnd, result_from_control_flow}
use Rattle.xdr.specs.declared.refusal.Refusal.{Refusal}
use Rattle.xdr.specs.Clauses.{Written, Wrote}
use Rattle.xdr.proofs.Writing.{wrote_on, wrote_exit}

-- the function went on after a write
pub wrote_then : {a b c : Written} {r s : Result (Unit {0}) Refusal} {t u : List ℕ} {branch : _} → Wrote a b r t → r ≡ result_from_control_flow branch → branch ≡ Continue tt
    → Wrote b c s u → Wrote a c s (t ++ u)
wrote_then {a = a} {b = b} {t = t} wrote taken is w =
    wrote_on (subst (λ (x : Result (Unit {0}) Refusal). Wrote a b x t) (taken ∙ ap result_from_control_flow is) wrote) w

-- it ended there
pub wrote_failed : {a b : Written} {r s : Result (Unit {0}) Refusal} {t : List ℕ} {branch residual : _} (u : List ℕ) → Wrote a b r t → r ≡ result_from_control_flow branch → branch ≡ Break residual
    → IsErrAnd s (λ y. y ≡ residual.0) → Wrote a b s (t ++ u)
wrote_failed {a = a} {b = b} {t = t} u wrote taken is failed =
    wrote_exit u failed (subst (λ (x : Result (Unit {0}) Refusal). Wrote a b x t) (taken ∙ ap result_from_control_flow is) wrote)

pub ruleset writes = (wrote_then, wrote_failed)
