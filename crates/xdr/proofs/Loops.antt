-- Reading elements one after the other, as a loop does.
use Rattle.std.proofs.Common.{◌≡◌, ℕ, suc, ◌-◌, ◌+◌, ◌≤◌, ◌<◌, List, [], ◌∷◌, ◌++◌, Result, Ok, Err, refl, sym, ap, ◌∙◌, append_assoc, arith}
use Rattle.std.proofs.lemmas.List.{append-nil}
use Rattle.xdr.specs.declared.refusal.Refusal.{Refusal}
use Rattle.xdr.specs.Grammar.{◌>>=◌}
use Rattle.xdr.specs.Forms.{each_at}

-- what was read before, followed by what is read now
abbrev pub with_prefix : {V : Type 0} → List V → Result (List V × List ℕ) Refusal → Result (List V × List ℕ) Refusal
with_prefix prefix read = read >>= λ x. Ok (prefix ++ x.0, x.1)

pub regroup : {V : Type 0} (prefix : List V) (v : V) (read : Result (List V × List ℕ) Refusal) → with_prefix prefix (read >>= λ x. Ok (v ∷ x.0, x.1)) ≡ with_prefix (prefix ++ v ∷ []) read
regroup {V = V} prefix v (Ok x) = ap (λ (vs : List V). Ok (vs, x.1)) (simp append_assoc)
regroup prefix v (Err e) = refl

pub goes_on : {V : Type 0} (read : List ℕ → Result (V × List ℕ) Refusal) (prefix : List V) (n i : ℕ) (bytes : List ℕ) (v : V) (after : List ℕ) (total : Result (List V × List ℕ) Refusal)
    → i < n → read bytes ≡ Ok (v, after) → with_prefix prefix (each_at read (n - i) bytes) ≡ total → with_prefix (prefix ++ v ∷ []) (each_at read (n - (i + 1)) after) ≡ total
unfolding each_at
goes_on read prefix n i bytes v after total lt h so_far =
    let k : n - i ≡ suc (n - (i + 1)) = omega arith in
    let one : with_prefix prefix (each_at read (n - i) bytes) ≡ with_prefix (prefix ++ v ∷ []) (each_at read (n - (i + 1)) after) = rw (k, h) (regroup prefix v (each_at read (n - (i + 1)) after)) in
    sym one ∙ so_far

pub ends : {V : Type 0} (read : List ℕ → Result (V × List ℕ) Refusal) (prefix : List V) (n i : ℕ) (bytes : List ℕ) (e : Refusal) (total : Result (List V × List ℕ) Refusal)
    → i < n → read bytes ≡ Err e → with_prefix prefix (each_at read (n - i) bytes) ≡ total → total ≡ Err e
unfolding each_at
ends read prefix n i bytes e total lt h so_far =
    let k : n - i ≡ suc (n - (i + 1)) = omega arith in
    let one : with_prefix prefix (each_at read (n - i) bytes) ≡ Err e = rw (k, h) refl in
    sym so_far ∙ one

pub is_done : {V : Type 0} (read : List ℕ → Result (V × List ℕ) Refusal) (prefix : List V) (n i : ℕ) (bytes : List ℕ) (total : Result (List V × List ℕ) Refusal)
    → n ≤ i → with_prefix prefix (each_at read (n - i) bytes) ≡ total → total ≡ Ok (prefix, bytes)
unfolding each_at
is_done {V = V} read prefix n i bytes total le so_far =
    let k : n - i ≡ 0 = omega arith in
    let one : with_prefix prefix (each_at read (n - i) bytes) ≡ Ok (prefix, bytes) = rw k (ap (λ (vs : List V). Ok (vs, bytes)) (append-nil prefix)) in
    sym so_far ∙ one
