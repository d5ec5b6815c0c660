-- Reading a chain one element after the other, as a loop does.
use Rattle.std.proofs.Common.{◌≡◌, ℕ, suc, ◌-◌, ◌+◌, ◌≤◌, ◌<◌, true, false, List, [], ◌∷◌, ◌++◌, Result, Ok, Err, refl, sym, ap, ◌∙◌, arith}
use Rattle.std.proofs.lemmas.List.{append-nil}
use Rattle.std.specs.Int.{w32}
use Rattle.xdr.specs.declared.refusal.Refusal.{Refusal}
use Rattle.xdr.specs.declared.refusal.Refusal.TheVariants.{Short}
use Rattle.xdr.specs.Grammar.{◌>>=◌, number_at}
use Rattle.xdr.specs.Forms.{links_at, truth_at}
use Rattle.xdr.proofs.Loops.{with_prefix, regroup}

-- one more element
pub chain_on : {V : Type 0} (read : List ℕ → Result (V × List ℕ) Refusal) (prefix : List V) (n i : ℕ) (bytes behind after : List ℕ) (v : V) (total : Result (List V × List ℕ) Refusal)
    → i < n → (number_at w32 bytes >>= truth_at) ≡ Ok (true, behind) → read behind ≡ Ok (v, after) → with_prefix prefix (links_at read (n - i) bytes) ≡ total
    → with_prefix (prefix ++ v ∷ []) (links_at read (n - (i + 1)) after) ≡ total
unfolding links_at
chain_on read prefix n i bytes behind after v total lt more h so_far =
    let k : n - i ≡ suc (n - (i + 1)) = omega arith in
    let one : with_prefix prefix (links_at read (n - i) bytes) ≡ with_prefix (prefix ++ v ∷ []) (links_at read (n - (i + 1)) after) = rw (k, more, h) (regroup prefix v (links_at read (n - (i + 1)) after)) in
    sym one ∙ so_far

-- no more elements
pub chain_ends : {V : Type 0} (read : List ℕ → Result (V × List ℕ) Refusal) (prefix : List V) (n i : ℕ) (bytes behind : List ℕ) (total : Result (List V × List ℕ) Refusal)
    → i < n → (number_at w32 bytes >>= truth_at) ≡ Ok (false, behind) → with_prefix prefix (links_at read (n - i) bytes) ≡ total → total ≡ Ok (prefix, behind)
unfolding links_at
chain_ends {V = V} read prefix n i bytes behind total lt more so_far =
    let k : n - i ≡ suc (n - (i + 1)) = omega arith in
    let one : with_prefix prefix (links_at read (n - i) bytes) ≡ Ok (prefix, behind) = rw (k, more) (ap (λ (vs : List V). Ok (vs, behind)) (append-nil prefix)) in
    sym so_far ∙ one

-- whether there is one cannot be read
pub chain_lost : {V : Type 0} (read : List ℕ → Result (V × List ℕ) Refusal) (prefix : List V) (n i : ℕ) (bytes : List ℕ) (e : Refusal) (total : Result (List V × List ℕ) Refusal)
    → i < n → (number_at w32 bytes >>= truth_at) ≡ Err e → with_prefix prefix (links_at read (n - i) bytes) ≡ total → total ≡ Err e
unfolding links_at
chain_lost read prefix n i bytes e total lt h so_far =
    let k : n - i ≡ suc (n - (i + 1)) = omega arith in
    let one : with_prefix prefix (links_at read (n - i) bytes) ≡ Err e = rw (k, h) refl in
    sym so_far ∙ one

-- an element cannot be read
pub chain_broken : {V : Type 0} (read : List ℕ → Result (V × List ℕ) Refusal) (prefix : List V) (n i : ℕ) (bytes behind : List ℕ) (e : Refusal) (total : Result (List V × List ℕ) Refusal)
    → i < n → (number_at w32 bytes >>= truth_at) ≡ Ok (true, behind) → read behind ≡ Err e → with_prefix prefix (links_at read (n - i) bytes) ≡ total → total ≡ Err e
unfolding links_at
chain_broken read prefix n i bytes behind e total lt more h so_far =
    let k : n - i ≡ suc (n - (i + 1)) = omega arith in
    let one : with_prefix prefix (links_at read (n - i) bytes) ≡ Err e = rw (k, more, h) refl in
    sym so_far ∙ one

-- the maximal number of elements
pub chain_long : {V : Type 0} (read : List ℕ → Result (V × List ℕ) Refusal) (prefix : List V) (n i : ℕ) (bytes : List ℕ) (total : Result (List V × List ℕ) Refusal)
    → n ≤ i → with_prefix prefix (links_at read (n - i) bytes) ≡ total → total ≡ Err Short
unfolding links_at
chain_long read prefix n i bytes total le so_far =
    let k : n - i ≡ 0 = omega arith in
    let one : with_prefix prefix (links_at read (n - i) bytes) ≡ Err Short = rw k refl in
    sym so_far ∙ one
