-- Names that are apart.
use Rattle.std.proofs.Common.{ℕ, zero, suc, Bool, true, false, List, [], ◌∷◌, ◌≡◌, ◌≢◌, ◌<◌, ◌≤◌, ◌+◌, ◌∙◌, inl, inr, cond, bytes_eq, length, get_or, refl, sym, ap, arith}
use Rattle.std.proofs.lemmas.Bool.{cases_lt}
use Rattle.directory.specs.Records.{Record, is_named, place_of, NamesApart}
use Rattle.directory.proofs.Places.{named_there, bytes_eq-same, place_of-le}

-- a name's place is that of a record that has it, or one before
pub place_of-before : (name : List ℕ) (xs : List Record) (i : ℕ) (d : Record) → i < length xs → (get_or xs i d).1.name ≡ name → place_of name xs ≤ i
place_of-before name [] i d within named = absurd (omega arith)
place_of-before name (x ∷ xs) zero d within named =
    let hit : is_named name x ≡ true = ap (bytes_eq name) named ∙ bytes_eq-same name in
    rw hit (omega arith)
place_of-before name (x ∷ xs) (suc i) d within named = step (is_named name x) (place_of-before name xs i d (omega arith) named)
  where
    step : (b : Bool) → place_of name xs ≤ i → cond b 0 (place_of name xs + 1) ≤ suc i
    step true low = omega arith
    step false low = omega arith

-- if each name is at its own place, no two are the same
pub apart_places : (xs : List Record) → ((k : ℕ) (d : Record) → k < length xs → place_of (get_or xs k d).1.name xs ≡ k) → NamesApart xs
apart_places xs own i j d before within = λ same.
    let one : i ≡ j = sym (own i d (omega arith)) ∙ (ap (λ n. place_of n xs) same ∙ own j d within) in
    omega arith

-- one that is at another place is there twice
pub not_apart : (xs : List Record) (i : ℕ) (d : Record) → i < length xs → place_of (get_or xs i d).1.name xs ≢ i → NamesApart xs → ⊥
not_apart xs i d within elsewhere apart =
    let name = (get_or xs i d).1.name in
    let low : place_of name xs ≤ i = place_of-before name xs i d within refl in
    let before : place_of name xs < i = omega (arith, elsewhere) in
    apart (place_of name xs) i d before within (named_there name xs d (omega arith))

-- the place of the first that has a name, and the place if none has it
pub place_of-first : (name : List ℕ) (xs : List Record) (i : ℕ) (d : Record) → i < length xs → (get_or xs i d).1.name ≡ name
    → ((j : ℕ) (e : Record) → j < i → (get_or xs j e).1.name ≢ name) → i ≡ place_of name xs
place_of-first name xs i d within named before =
    let low : place_of name xs ≤ i = place_of-before name xs i d within named in
    elim (cases_lt (place_of name xs) i) [
      | inl less ↦ absurd (before (place_of name xs) d less (named_there name xs d (omega arith)))
      | inr no_less ↦ omega arith
    ]

pub place_of-none : (name : List ℕ) (xs : List Record) (d : Record) → ((j : ℕ) (e : Record) → j < length xs → (get_or xs j e).1.name ≢ name) → length xs ≡ place_of name xs
place_of-none name xs d none =
    elim (cases_lt (place_of name xs) (length xs)) [
      | inl less ↦ absurd (none (place_of name xs) d less (named_there name xs d less))
      | inr no_less ↦ let most : place_of name xs ≤ length xs = place_of-le name xs in omega arith
    ]
