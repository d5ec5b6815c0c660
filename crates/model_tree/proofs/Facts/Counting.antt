-- How many of a list pass a test.
use Rattle.std.proofs.Common.{◌≡◌, ℕ, ◌≤◌, suc, Bool, true, false, cond, List, [], ◌∷◌, map, filter, length, refl, ap, subst, arith}
use Rattle.std.specs.List.{AllByRecursion}

abbrev pub size : {A : Type 0} → (A → Bool) → List A → ℕ
size p xs = length (filter p xs)

pub one_more : {A : Type 0} (a c : Bool) (x : A) (xs : List A) {B : Type 0} (y : B) (ys : List B) → (a ≡ true → c ≡ true) → length xs ≤ length ys
    → length (cond a (x ∷ xs) xs) ≤ length (cond c (y ∷ ys) ys)
one_more true true x xs y ys step le = omega arith
one_more true false x xs y ys step le = absurd (no (step refl))
  where
    no : false ≡ true → ⊥
    no same = cc
one_more false true x xs y ys step le = omega arith
one_more false false x xs y ys step le = le

pub size-le : {A : Type 0} (p : A → Bool) (xs : List A) → size p xs ≤ length xs
size-le p [] = omega arith
size-le p (x ∷ xs) = at_most (p x) (size-le p xs)
  where
    at_most : (b : Bool) → length (filter p xs) ≤ length xs → length (cond b (x ∷ filter p xs) (filter p xs)) ≤ suc (length xs)
    at_most true le = omega arith
    at_most false le = omega arith

-- if what passes one test after a change passes another before it
pub size_changed : {A : Type 0} (p t q : A → Bool) (f : A → A) (xs : List A) → AllByRecursion (λ x. q x ≡ true → p (f x) ≡ true → t x ≡ true) xs
    → size p (map f (filter q xs)) ≤ size t xs
size_changed p t q f [] all = omega arith
size_changed p t q f (x ∷ xs) all = by_kept (size_changed p t q f xs all.1) (q x) refl
  where
    more : (b : Bool) → length (filter t xs) ≤ length (cond b (x ∷ filter t xs) (filter t xs))
    more true = omega arith
    more false = omega arith

    by_kept : size p (map f (filter q xs)) ≤ size t xs → (kept : Bool) → q x ≡ kept
        → size p (map f (cond kept (x ∷ filter q xs) (filter q xs))) ≤ length (cond (t x) (x ∷ filter t xs) (filter t xs))
    by_kept later true is = one_more (p (f x)) (t x) (f x) (filter p (map f (filter q xs))) x (filter t xs) (all.0 is) later
    by_kept later false is = let one = more (t x) in omega (arith, one, later)

pub always : {A : Type 0} (P : A → Type 0) → ((x : A) → P x) → (xs : List A) → AllByRecursion P xs
always P each [] = tt
always P each (x ∷ xs) = (each x, always P each xs)

pub map-same : {A : Type 0} (xs : List A) → map (λ (x : A). x) xs ≡ xs
map-same [] = refl
map-same (x ∷ xs) = ap (λ l. x ∷ l) (map-same xs)

pub size-filter : {A : Type 0} (p q : A → Bool) (xs : List A) → size p (filter q xs) ≤ size p xs
size-filter {A = A} p q xs =
    subst (λ (l : List A). size p l ≤ size p xs) (map-same (filter q xs))
    (size_changed p p q (λ x. x) xs (always _ (λ x kept is. is) xs))
