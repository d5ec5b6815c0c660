-- The results of a record's operations, one after the other.
use Rattle.std.proofs.Common.{◌≡◌, ℕ, ◌+◌, ◌<◌, true, false, List, [], ◌∷◌, length, get_or, drop, Some, None, refl, sym, ap, ◌∙◌, arith}
use Rattle.std.specs.Prelude.{map}
use Rattle.std.proofs.lemmas.List.{drop_more, length-drop, length-map}
use Rattle.std.proofs.lemmas.Bool.{eq-eqb}
use Rattle.model_tree.specs.declared.status.Status.{Status}
use Rattle.model.specs.Operations.Answer as answers
use Rattle.wire.specs.declared.outcome.Outcome.{Outcome}
use Rattle.wire.specs.OutcomeView.{outcome_view}
use Rattle.client.specs.Replies.{ending, outcome_number, is_ok}

pub none_left : (operations : List ℕ) → ending operations [] ≡ None
none_left [] = refl
none_left (operation ∷ operations) = refl

pub goes_on : (operation : ℕ) (operations : List ℕ) (one : answers.Outcome) (rest : List answers.Outcome) → 0 < length rest → outcome_number one ≡ operation → is_ok one ≡ true
    → ending (operation ∷ operations) (one ∷ rest) ≡ ending operations rest
goes_on operation operations one [] some same ok = absurd (omega arith)
goes_on operation operations one (next ∷ rest) some same ok = rw (eq-eqb (outcome_number one) operation same, ok) refl

stops : (operation : ℕ) (operations : List ℕ) (one : answers.Outcome) (rest : List answers.Outcome) → 0 < length rest → outcome_number one ≡ operation → is_ok one ≡ false
    → ending (operation ∷ operations) (one ∷ rest) ≡ None
stops operation operations one [] some same ok = absurd (omega arith)
stops operation operations one (next ∷ rest) some same ok = rw (eq-eqb (outcome_number one) operation same, ok) refl

here : (operations : List ℕ) (results : List Outcome) (i : ℕ) (one : Outcome) → i < length operations → i < length results → one ≡ get_or results i one
    → ending (drop i operations) (map outcome_view (drop i results))
    ≡ ending (get_or operations i 0 ∷ drop (i + 1) operations) (outcome_view one ∷ map outcome_view (drop (i + 1) results))
here operations results i one asked given is =
    let rest : drop i results ≡ one ∷ drop (i + 1) results = drop_more results i one given ∙ ap (λ (x : Outcome). x ∷ drop (i + 1) results) (sym is) in
    ap (λ (os : List ℕ). ending os (map outcome_view (drop i results))) (drop_more operations i 0 asked)
    ∙ ap (λ (rs : List Outcome). ending (get_or operations i 0 ∷ drop (i + 1) operations) (map outcome_view rs)) rest

more : (results : List Outcome) (i : ℕ) → i + 1 < length results → 0 < length (map outcome_view (drop (i + 1) results))
more results i lt = omega (arith, length-map (drop (i + 1) results) outcome_view, length-drop (i + 1) results)

pub step_on : (operations : List ℕ) (results : List Outcome) (i : ℕ) (one : Outcome) → i < length operations → i + 1 < length results → one ≡ get_or results i one
    → outcome_number (outcome_view one) ≡ get_or operations i 0 → is_ok (outcome_view one) ≡ true
    → ending (drop i operations) (map outcome_view (drop i results)) ≡ ending (drop (i + 1) operations) (map outcome_view (drop (i + 1) results))
step_on operations results i one asked given is same ok =
    here operations results i one asked (omega arith) is
    ∙ goes_on (get_or operations i 0) (drop (i + 1) operations) (outcome_view one) (map outcome_view (drop (i + 1) results)) (more results i given) same ok

pub step_stops : (operations : List ℕ) (results : List Outcome) (i : ℕ) (one : Outcome) → i < length operations → i + 1 < length results → one ≡ get_or results i one
    → outcome_number (outcome_view one) ≡ get_or operations i 0 → is_ok (outcome_view one) ≡ false
    → ending (drop i operations) (map outcome_view (drop i results)) ≡ None
step_stops operations results i one asked given is same not_ok =
    here operations results i one asked (omega arith) is
    ∙ stops (get_or operations i 0) (drop (i + 1) operations) (outcome_view one) (map outcome_view (drop (i + 1) results)) (more results i given) same not_ok

pub some_left : (operations : List ℕ) (results : List Outcome) (last : Status) → ending operations (map outcome_view results) ≡ Some last → 0 < length results
some_left operations [] last is = absurd (cc (none_left operations, is))
some_left operations (one ∷ results) last is = omega arith
