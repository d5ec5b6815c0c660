-- Lists with holes at their end.
use Rattle.std.proofs.Common.{◌≡◌, ◌≤◌, ◌-◌, ℕ, zero, suc, List, [], ◌∷◌, ◌++◌, Option, None, length, get_or, take, replicate, refl, ap}
use Rattle.std.proofs.lemmas.List.{take_all}
use Rattle.extents.specs.Runs.{with_holes}

-- a hole at the end reads as what is past the end
get_or-replicate_None : (n k : ℕ) → get_or {A = Option ℕ} (replicate n None) k None ≡ None
get_or-replicate_None zero k = refl
get_or-replicate_None (suc n) zero = refl
get_or-replicate_None (suc n) (suc k) = get_or-replicate_None n k

pub get_or-holes : (blocks : List (Option ℕ)) (n k : ℕ) → get_or (blocks ++ replicate n None) k None ≡ get_or blocks k None
get_or-holes [] n k = get_or-replicate_None n k
get_or-holes (b ∷ blocks) n zero = refl
get_or-holes (b ∷ blocks) n (suc k) = get_or-holes blocks n k

-- what `resize` makes if it does not cut
pub resized : (blocks : List (Option ℕ)) (len : ℕ) → length blocks ≤ len → take len blocks ++ replicate (len - length blocks) None ≡ with_holes blocks len
resized blocks len h = ap (λ (prefix : List (Option ℕ)). prefix ++ replicate (len - length blocks) None) (take_all len blocks h)
