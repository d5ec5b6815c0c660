-- How often numbers are in lists.
use Rattle.std.proofs.Common.{◌≡◌, ◌≢◌, ◌<◌, ◌≤◌, ◌+◌, ℕ, zero, suc, true, false, eqb, List, [], ◌∷◌, ◌++◌, length, get_or, take, refl, sym, ap, ◌∙◌, arith, eq-eqb, inl, inr}
use Rattle.std.specs.List.{flat_map, AllByRecursion}
use Rattle.std.proofs.lemmas.Bool.{cases_eq, ne_eqb}
use Rattle.extent_tree.specs.declared.entry.Entry.{Entry}
use Rattle.extent_tree.specs.Setting.{times, AreDistinct}
use Rattle.extent_tree.proofs.Frames.{AreSameAt}

pub times-append : (n : ℕ) (xs ys : List ℕ) → times n (xs ++ ys) ≡ times n xs + times n ys
times-append n [] ys = omega arith
times-append n (x ∷ xs) ys = omega (arith, times-append n xs ys)

pub times-first : (n : ℕ) (xs : List ℕ) → times n (n ∷ xs) ≡ 1 + times n xs
times-first n xs = let test : eqb n n ≡ true = eq-eqb n n refl in rw test refl

pub times-other : (n x : ℕ) (xs : List ℕ) → n ≢ x → times n (x ∷ xs) ≡ times n xs
times-other n x xs apart = let test : eqb n x ≡ false = ne_eqb n x apart in rw test (omega arith)

pub times-take : (n k : ℕ) (xs : List ℕ) → times n (take k xs) ≤ times n xs
times-take n zero xs = omega arith
times-take n (suc k) [] = omega arith
times-take n (suc k) (x ∷ xs) = omega (arith, times-take n k xs)

pub times-take_more : (n k : ℕ) (x : ℕ) (xs : List ℕ) → times n (take (k + 1) (x ∷ xs)) ≡ times n (x ∷ take k xs)
times-take_more n k x xs = let more : k + 1 ≡ suc k = omega arith in ap (λ (j : ℕ). times n (take j (x ∷ xs))) more

-- a part of many has no number more often than all
pub times-part : (f : Entry → List ℕ) (n : ℕ) (xs : List Entry) (i : ℕ) (d : Entry) → i < length xs → times n (f (get_or xs i d)) ≤ times n (flat_map f xs)
times-part f n [] i d lt = absurd (omega arith)
times-part f n (x ∷ xs) zero d lt = omega (arith, times-append n (f x) (flat_map f xs))
times-part f n (x ∷ xs) (suc i) d lt = omega (arith, times-append n (f x) (flat_map f xs), times-part f n xs i d (omega arith))

-- what stays the same at each number that is in a list
pub same_where : (index other : ℕ → List Entry) (xs : List ℕ) → ((s : ℕ) → 0 < times s xs → other s ≡ index s) → AreSameAt index other xs
same_where index other [] h = tt
same_where index other (x ∷ xs) h = (h x (omega (arith, times-first x xs)), same_where index other xs (λ s some. h s (omega arith)))

-- a number that is in a list is not one that is not
pub apart_by : (n m : ℕ) (xs : List ℕ) → 0 < times n xs → times m xs ≡ 0 → n ≢ m
apart_by n m xs some none is = let same : times n xs ≡ times m xs = ap (λ (k : ℕ). times k xs) is in absurd (omega arith)

-- ---- no number twice

pub distinct_as : (xs ys : List ℕ) → xs ≡ ys → AreDistinct ys → AreDistinct xs
distinct_as xs ys is h s = omega (arith, h s, ap (times s) is)

times_apart : (n : ℕ) (xs : List ℕ) → AllByRecursion (λ (x : ℕ). x ≢ n) xs → times n xs ≡ 0
times_apart n [] h = refl
times_apart n (x ∷ xs) h = times-other n x xs (λ e. h.0 (sym e)) ∙ times_apart n xs h.1

pub distinct_more : (n : ℕ) (xs : List ℕ) → AllByRecursion (λ (x : ℕ). x ≢ n) xs → AreDistinct xs → AreDistinct (n ∷ xs)
distinct_more n xs apart h s =
    elim (cases_eq s n) [
      | inl is ↦
          let here : times s (n ∷ xs) ≡ times n (n ∷ xs) = ap (λ (k : ℕ). times k (n ∷ xs)) is in
          omega (arith, times-first n xs, times_apart n xs apart)
      | inr other ↦ omega (arith, times-other s n xs other, h s)
    ]
