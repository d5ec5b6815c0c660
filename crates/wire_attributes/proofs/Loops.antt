-- Reading values one after the other, as a loop does.
use Rattle.std.proofs.Common.{◌≡◌, ℕ, ◌+◌, ◌≤◌, ◌<◌, List, [], ◌∷◌, ◌++◌, length, drop, get_or, Result, Ok, Err, refl, sym, ap, ◌∙◌, append_assoc}
use Rattle.std.proofs.lemmas.List.{append-nil, drop_more, drop_all}
use Rattle.xdr.specs.declared.refusal.Refusal.{Refusal}
use Rattle.xdr.specs.Grammar.{◌>>=◌}
use Rattle.xdr.proofs.Loops.{with_prefix}
use Rattle.model.specs.Attributes.AttributeValue.{Value, value_at, values_at}

regroup : (prefix : List Value) (v : Value) (read : Result (List Value × List ℕ) Refusal) → with_prefix prefix (read >>= λ x. Ok (v ∷ x.0, x.1)) ≡ with_prefix (prefix ++ v ∷ []) read
regroup prefix v (Ok x) = ap (λ (vs : List Value). Ok (vs, x.1)) (simp append_assoc)
regroup prefix v (Err e) = refl

pub value_on : (prefix : List Value) (attributes : List ℕ) (i : ℕ) (bytes : List ℕ) (v : Value) (after : List ℕ) (total : Result (List Value × List ℕ) Refusal)
    → i < length attributes → value_at (get_or attributes i 0) bytes ≡ Ok (v, after) → with_prefix prefix (values_at (drop i attributes) bytes) ≡ total
    → with_prefix (prefix ++ v ∷ []) (values_at (drop (i + 1) attributes) after) ≡ total
unfolding values_at
value_on prefix attributes i bytes v after total lt h so_far =
    let one : with_prefix prefix (values_at (drop i attributes) bytes) ≡ with_prefix (prefix ++ v ∷ []) (values_at (drop (i + 1) attributes) after) =
    rw (drop_more attributes i 0 lt, h) (regroup prefix v (values_at (drop (i + 1) attributes) after)) in
    sym one ∙ so_far

pub value_stops : (prefix : List Value) (attributes : List ℕ) (i : ℕ) (bytes : List ℕ) (e : Refusal) (total : Result (List Value × List ℕ) Refusal)
    → i < length attributes → value_at (get_or attributes i 0) bytes ≡ Err e → with_prefix prefix (values_at (drop i attributes) bytes) ≡ total → total ≡ Err e
unfolding values_at
value_stops prefix attributes i bytes e total lt h so_far =
    let one : with_prefix prefix (values_at (drop i attributes) bytes) ≡ Err e = rw (drop_more attributes i 0 lt, h) refl in
    sym so_far ∙ one

pub values_done : (prefix : List Value) (attributes : List ℕ) (i : ℕ) (bytes : List ℕ) (total : Result (List Value × List ℕ) Refusal)
    → length attributes ≤ i → with_prefix prefix (values_at (drop i attributes) bytes) ≡ total → total ≡ Ok (prefix, bytes)
unfolding values_at
values_done prefix attributes i bytes total le so_far =
    let one : with_prefix prefix (values_at (drop i attributes) bytes) ≡ Ok (prefix, bytes) = rw (drop_all i attributes le) (ap (λ (vs : List Value). Ok (vs, bytes)) (append-nil prefix)) in
    sym so_far ∙ one
