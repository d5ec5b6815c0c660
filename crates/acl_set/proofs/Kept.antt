-- Lists cut to a class, put together, and searched up to a limit.
use Rattle.std.proofs.Common.{⊎_elim, ◌≤◌, arith, min, nat_lt, unwrap_or, Some, None, ◌≡◌, ◌∙◌, sym, ap, refl, ℕ, ◌<◌, Bool, true, false, cond, not, ◌&&◌, List, ◌∷◌, ◌++◌, filter, length}
use Rattle.std.proofs.lemmas.List.{append_assoc}
use Rattle.std.proofs.lemmas.List.Elements.{filter-append}
use Rattle.std.proofs.lemmas.List.Sums.{prefix_len-le-length}
use Rattle.std.proofs.Math.Nat.{min_comm}
use Rattle.std.proofs.lemmas.Bool.{and_parts, cases_lt, false≢true, le-ltb, lt-ltb}
use Rattle.std.specs.List.{position, position_or_len}
use Rattle.model_tree.specs.Rights.Acl.{counts, first_of, is_allow, meets}
use Rattle.model_tree.specs.Rights.Mode.{allows_right}
use Rattle.model_tree.specs.declared.acl.Ace.{Ace}
use Rattle.model_tree.specs.declared.acl.Who.{Who}

-- the first entry of the list cut to a class decides a right, or is passed over
pub allows_right-decided : (named : Who → Bool) (ace : Ace) (rest : List Ace) (right : ℕ) → ((counts ace && named ace.who) && meets ace.mask.0 right) ≡ true → allows_right (filter (λ (a : Ace). counts a && named a.who) (ace ∷ rest)) right ≡ is_allow ace.kind
unfolding first_of
allows_right-decided named ace rest right e =
    let all = and_parts (counts ace && named ace.who) (meets ace.mask.0 right) e in
    let both = and_parts (counts ace) (named ace.who) all.0 in
    simp (both.0, both.1, all.1)

passed_by : (named : Who → Bool) (ace : Ace) (rest : List Ace) (right : ℕ) (is_counting is_named does_name : Bool) → counts ace ≡ is_counting → named ace.who ≡ is_named → meets ace.mask.0 right ≡ does_name → ((is_counting && is_named) && does_name) ≡ false → allows_right (filter (λ (a : Ace). counts a && named a.who) (ace ∷ rest)) right ≡ allows_right (filter (λ (a : Ace). counts a && named a.who) rest) right
unfolding first_of
passed_by named ace rest right true true true e f g h = absurd (false≢true (sym h))
passed_by named ace rest right true true false e f g h = simp (e, f, g)
passed_by named ace rest right true false does_name e f g h = simp (e, f)
passed_by named ace rest right false is_named does_name e f g h = simp e

pub allows_right-passed : (named : Who → Bool) (ace : Ace) (rest : List Ace) (right : ℕ) → ((counts ace && named ace.who) && meets ace.mask.0 right) ≡ false → allows_right (filter (λ (a : Ace). counts a && named a.who) (ace ∷ rest)) right ≡ allows_right (filter (λ (a : Ace). counts a && named a.who) rest) right
allows_right-passed named ace rest right e =
    passed_by named ace rest right (counts ace) (named ace.who) (meets ace.mask.0 right) refl refl refl e

-- five pushes one after the other
pub filter-five : {X : Type 0} (p : X → Bool) (xs bs cs ds es : List X) → filter p xs ++ filter p bs ++ filter p cs ++ filter p ds ++ filter p es ≡ filter p (xs ++ bs ++ (cs ++ ds) ++ es)
filter-five p xs bs cs ds es = simp (filter-append, append_assoc)

unwrapped : (n len : ℕ) → n ≤ len → unwrap_or (cond (nat_lt n len) (Some n) None) len ≡ n
unwrapped n len h =
    ⊎_elim
    (λ (before : n < len). rw (lt-ltb n len before))
    (λ (behind : len ≤ n). rw (le-ltb n len behind) (omega arith))
    (cases_lt n len)

-- the first place at which a test passes, or the length, cut at a limit
pub first_or_limit : {X : Type 0} (p : X → Bool) (xs : List X) (most : ℕ) → min (unwrap_or (position p xs) (length xs)) most ≡ min most (position_or_len p xs)
first_or_limit p xs most =
    let within = prefix_len-le-length (λ x. not (p x)) xs in
    ap (λ n. min n most) (unwrapped (position_or_len p xs) (length xs) within) ∙ min_comm (position_or_len p xs) most
