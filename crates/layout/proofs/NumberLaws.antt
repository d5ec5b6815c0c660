-- How often numbers occur in a list.
use Rattle.std.proofs.Common.{◌≡◌, ◌≢◌, ◌≤◌, ◌<◌, ◌+◌, ℕ, zero, suc, List, [], ◌∷◌, ◌++◌, Option, Some, None, length, take, get_or, refl, sym, ap, ◌∙◌, arith, inl, inr, eqb, eq-eqb, ne_eqb}
use Rattle.std.proofs.lemmas.Bool.{cases_eq}
use Rattle.std.proofs.lemmas.List.Sorted.{sum_by-IsPermutation}
use Rattle.std.proofs.lemmas.List.Sums.{sum_by-cons}
use Rattle.std.specs.List.{sum_by}
use Rattle.std.specs.List.Sorted.{IsPermutation, IsNonDecreasing}
use Rattle.layout.specs.Marks.{once_if, times, times_set}

pub once-here : (n : ℕ) → once_if (eqb n n) ≡ 1
once-here n = rw (eq-eqb n n refl) refl

pub once-at : (m n : ℕ) → m ≡ n → once_if (eqb m n) ≡ 1
once-at m n is = rw (eq-eqb m n is) refl

pub once-off : (m n : ℕ) → m ≢ n → once_if (eqb m n) ≡ 0
once-off m n off = rw (ne_eqb m n off) refl

pub times-append : (n : ℕ) (a b : List ℕ) → times n (a ++ b) ≡ times n a + times n b
times-append n [] b = omega arith
times-append n (x ∷ a) b = omega (arith, times-append n a b)

-- what is in a list occurs in it at least once
pub times-at : (xs : List ℕ) (i d : ℕ) → i < length xs → 0 < times (get_or xs i d) xs
times-at [] i d h = absurd (omega arith)
times-at (x ∷ xs) zero d h = omega (arith, once-here x)
times-at (x ∷ xs) (suc i) d h = omega (arith, times-at xs i d (omega arith))

pub times_set-prefix : (n : ℕ) (blocks : List (Option ℕ)) (i : ℕ) → times_set n (take i blocks) ≤ times_set n blocks
times_set-prefix n blocks zero = omega arith
times_set-prefix n [] (suc i) = omega arith
times_set-prefix n (None ∷ blocks) (suc i) = times_set-prefix n blocks i
times_set-prefix n (Some s ∷ blocks) (suc i) = omega (arith, times_set-prefix n blocks i)

-- Once they are sorted

times-sum : (n : ℕ) (xs : List ℕ) → times n xs ≡ sum_by (λ x. once_if (eqb n x)) xs
times-sum n [] = refl
times-sum n (x ∷ xs) = ap (λ k. once_if (eqb n x) + k) (times-sum n xs) ∙ sym (sum_by-cons (λ y. once_if (eqb n y)) x xs)

pub times-moved : (n : ℕ) (xs ys : List ℕ) → IsPermutation xs ys → times n ys ≡ times n xs
times-moved n xs ys moved = times-sum n ys ∙ sum_by-IsPermutation (λ x. once_if (eqb n x)) xs ys moved ∙ sym (times-sum n xs)

-- a number that occurs in a list has a place there
pub place-of : (n : ℕ) (xs : List ℕ) → 0 < times n xs → (i : ℕ) × ((i < length xs) × (get_or xs i 0 ≡ n))
place-of n [] some = absurd (omega arith)
place-of n (x ∷ xs) some = elim (cases_eq n x) [
  | inl same ↦ (0, (omega arith, sym same))
  | inr off ↦
      let none = once-off n x off in
      let found = place-of n xs (omega arith) in
      (suc found.0, (omega (arith, found.1.0), found.1.1))
]

-- if no two neighbours are the same, sorted numbers rise from the first on
pub rising : (xs : List ℕ) → IsNonDecreasing xs → ((i : ℕ) → i + 1 < length xs → get_or xs i 0 ≢ get_or xs (i + 1) 0) → (i j : ℕ) → i < j → j < length xs → get_or xs i 0 < get_or xs j 0
rising xs up differ i zero before h = absurd (omega arith)
rising xs up differ i (suc j) before h =
    let low = up i j 0 (omega arith) (omega arith) in
    let step = up j (suc j) 0 (omega arith) h in
    let e : j + 1 ≡ suc j = omega arith in
    let apart : get_or xs j 0 ≢ get_or xs (suc j) 0 = λ same. differ j (omega arith) (same ∙ ap (λ n. get_or xs n 0) (sym e)) in
    omega (arith, ne-lt _ _ step apart)
  where
    ne-lt : (a b : ℕ) → a ≤ b → a ≢ b → a < b
    ne-lt a b le ne = omega arith

pub once-each : (n : ℕ) (xs : List ℕ) → ((i j : ℕ) → i < j → j < length xs → get_or xs i 0 < get_or xs j 0) → times n xs ≤ 1
once-each n [] rises = omega arith
once-each n (x ∷ xs) rises = elim (cases_eq n x) [
  | inl same ↦ elim (cases_eq (times n xs) 0) [
    | inl none ↦ let one : once_if (eqb n x) ≡ 1 = rw (eq-eqb n x same) refl in omega arith
    | inr some ↦
        let found = place-of n xs (omega arith) in
        let above : x < get_or xs found.0 0 = rises 0 (suc found.0) (omega arith) (omega (arith, found.1.0)) in
        absurd (omega (arith, found.1.1))
  ]
  | inr off ↦
      let none = once-off n x off in
      omega (arith, once-each n xs (λ i j before h. rises (suc i) (suc j) (omega arith) (omega arith)))
]
