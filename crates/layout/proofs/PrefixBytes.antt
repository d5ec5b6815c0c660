-- A sector that is written from its beginning.
use Rattle.std.proofs.Common.{◌≡◌, ◌≤◌, ◌+◌, ◌++◌, ◌∙◌, ℕ, List, take, replicate, length, ap, sym, arith}
use Rattle.std.proofs.lemmas.List.{take_all, length-replicate}

-- one that begins with these bytes and has zeros after them is both end to end
pub behind_prefix : (count rest : ℕ) (old new prefix : List ℕ) → count + rest ≡ 4096 → length new ≡ 4096 → take count old ≡ prefix
    → take (count + length (replicate {A = ℕ} rest 0)) new ≡ take count old ++ replicate rest 0 → new ≡ prefix ++ replicate rest 0
behind_prefix count rest old new prefix whole long fields zeros =
    let within : length new ≤ 4096 = omega (arith, long) in
    let counted : count + length (replicate {A = ℕ} rest 0) ≡ 4096 = ap (λ (n : ℕ). count + n) (length-replicate {A = ℕ} rest 0) ∙ whole in
    sym (take_all 4096 new within) ∙ (ap (λ (n : ℕ). take n new) (sym counted) ∙ (zeros ∙ ap (λ (f : List ℕ). f ++ replicate rest 0) fields))
