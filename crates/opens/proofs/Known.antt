-- Lists that are seen as maps by their keys.
use Rattle.std.proofs.Common.{ℕ, suc, zero, Bool, true, false, cond, not, List, [], ◌∷◌, ◌++◌, ◌≡◌, ◌≢◌, ◌<◌, ◌≤◌, ◌==◌, ◌||◌, Result, Ok, Err, length, get_or, set, map, filter, refl, sym, ap, subst, ◌∙◌, arith, eq-eqb, ne_eqb, le-ltb}
use Rattle.std.specs.List.{All, AllPairs, list_any}
use Rattle.std.specs.Result.{is_ok, is_err}
use Rattle.std.proofs.lemmas.List.Elements.{All-filter}
use Rattle.std.proofs.lemmas.List.Kept.{AllPairs-filter}
use Rattle.model_tree.specs.Trees.Keyed.{Keyed, with, without, kept_or_not}

module _ {A B : Type 0} (f : A → ℕ × B) where
  behind : (entry : ℕ × B) (rest : Keyed B) (key : ℕ) (value : B) → entry.0 < key → with (entry ∷ rest) key value ≡ entry ∷ with rest key value
  behind entry rest key value high =
      let apart : key ≢ entry.0 = omega arith in
      let low : entry.0 ≤ key = omega arith in
      rw (ne_eqb key entry.0 apart, le-ltb key entry.0 low)

  -- a key above all others comes after them
  pub with-push : (xs : List A) (y : A) → ((k : ℕ) (d : A) → k < length xs → (f (get_or xs k d)).0 < (f y).0)
      → map f (xs ++ y ∷ []) ≡ with (map f xs) (f y).0 (f y).1
  with-push [] y above = refl
  with-push (x ∷ xs) y above =
      ap (λ rest. f x ∷ rest) (with-push xs y (λ k d h. above (suc k) d (omega arith)))
      ∙ sym (behind (f x) (map f xs) (f y).0 (f y).1 (above 0 x (omega arith)))

  -- the value at a key is changed in its place
  pub with-set : (xs : List A) (i : ℕ) (d y : A) → AllPairs (λ a b. (f a).0 < (f b).0) xs → i < length xs → (f y).0 ≡ (f (get_or xs i d)).0
      → map f (set xs i y) ≡ with (map f xs) (f y).0 (f y).1
  with-set [] i d y rises within same = absurd (omega arith)
  with-set (x ∷ xs) zero d y rises within same = rw (eq-eqb (f y).0 (f x).0 same) refl
  with-set (x ∷ xs) (suc i) d y rises within same =
      let before : (f x).0 < (f (get_or xs i d)).0 = rises 0 (suc i) d (omega arith) within in
      ap (λ rest. f x ∷ rest) (with-set xs i d y (λ j k e h inside. rises (suc j) (suc k) e (omega arith) (omega arith)) (omega arith) same)
      ∙ sym (behind (f x) (map f xs) (f y).0 (f y).1 (omega arith))

  -- what is kept of a map
  keep : (b : Bool) (x : A) (xs : List A) (ys : Keyed B) → map f xs ≡ ys → map f (cond b (x ∷ xs) xs) ≡ cond b (f x ∷ ys) ys
  keep true x xs ys e = ap (λ rest. f x ∷ rest) e
  keep false x xs ys e = e

  pub map-filter : (p : ℕ × B → Bool) (xs : List A) → map f (filter (λ x. p (f x)) xs) ≡ filter p (map f xs)
  map-filter p [] = refl
  map-filter p (x ∷ xs) = keep (p (f x)) x (filter (λ y. p (f y)) xs) (filter p (map f xs)) (map-filter p xs)

  drop_or_keep : (b : Bool) (x : A) (xs : List A) (ys : Keyed B) → map f xs ≡ ys → map f (cond (not b) (x ∷ xs) xs) ≡ kept_or_not b (f x) ys
  drop_or_keep true x xs ys e = e
  drop_or_keep false x xs ys e = ap (λ rest. f x ∷ rest) e

  -- a key is taken out
  pub map-without : (key : ℕ) (xs : List A) → map f (filter (λ x. not (key == (f x).0)) xs) ≡ without (map f xs) key
  map-without key [] = refl
  map-without key (x ∷ xs) = drop_or_keep (key == (f x).0) x (filter (λ y. not (key == (f y).0)) xs) (without (map f xs) key) (map-without key xs)

  pub list_any-map : (p : ℕ × B → Bool) (xs : List A) → list_any p (map f xs) ≡ list_any (λ x. p (f x)) xs
  list_any-map p [] = refl
  list_any-map p (x ∷ xs) = ap (λ b. p (f x) || b) (list_any-map p xs)

-- a filter keeps what holds of all
pub record Keeps {A : Type 0} (key : A → ℕ) (last : ℕ) (xs : List A) : Type 0 where
  pub rising : AllPairs (λ a b. key a < key b) xs
  pub made : All (λ x. key x ≤ last) xs

pub keeps : {A : Type 0} (key : A → ℕ) (last : ℕ) (p : A → Bool) (xs ys : List A) → ys ≡ filter p xs
    → AllPairs (λ a b. key a < key b) xs → All (λ x. key x ≤ last) xs → Keeps key last ys
keeps key last p xs ys e rising made = record {
  rising = subst (AllPairs (λ a b. key a < key b)) (sym e) (AllPairs-filter (λ a b. key a < key b) p xs rising);
  made = subst (All (λ x. key x ≤ last)) (sym e) (All-filter p (λ x. key x ≤ last) xs made);
}

-- the element pushed
pub pushed : {A R E : Type 0} (r : Result R E) (xs ys : List A) (y : A) → ys ≡ cond (is_ok r) (xs ++ y ∷ []) xs → is_err r ≡ false → ys ≡ xs ++ y ∷ []
pushed (Ok x) xs ys y e ok = e
pushed (Err x) xs ys y e ok = cc
