-- Sorted numbers are distinct exactly if no two neighbours are the same.
use Rattle.std.proofs.Common.{◌≡◌, ◌≢◌, ◌≤◌, ◌<◌, ◌+◌, ℕ, zero, suc, List, [], ◌∷◌, length, get_or, refl, sym, ◌∙◌, arith, inl, inr, eqb, eq-eqb, ne_eqb}
use Rattle.std.proofs.lemmas.Bool.{cases_eq}
use Rattle.std.specs.List.Sorted.{IsPermutation, IsNonDecreasing}
use Rattle.layout.specs.Marks.{once_if, times}
use Rattle.layout.proofs.NumberLaws.{times-moved, place-of, rising, once-each}
use Rattle.volume_load.specs.Numbers.{AreDifferent}

-- a number at two places occurs twice

pub times-at : (n : ℕ) (xs : List ℕ) (i : ℕ) → i < length xs → get_or xs i 0 ≡ n → 1 ≤ times n xs
times-at n [] i h is = absurd (omega arith)
times-at n (x ∷ xs) zero h is = let one : once_if (eqb n x) ≡ 1 = rw (eq-eqb n x (sym is)) refl in omega arith
times-at n (x ∷ xs) (suc i) h is = omega (arith, times-at n xs i (omega arith) is)

pub times-twice : (n : ℕ) (xs : List ℕ) (i j : ℕ) → i < j → j < length xs → get_or xs i 0 ≡ n → get_or xs j 0 ≡ n → 2 ≤ times n xs
times-twice n [] i j before h a b = absurd (omega arith)
times-twice n (x ∷ xs) i zero before h a b = absurd (omega arith)
times-twice n (x ∷ xs) zero (suc j) before h a b = let one : once_if (eqb n x) ≡ 1 = rw (eq-eqb n x (sym a)) refl in omega (arith, times-at n xs j (omega arith) b)
times-twice n (x ∷ xs) (suc i) (suc j) before h a b = omega (arith, times-twice n xs i j (omega arith) (omega arith) a b)

pub apart_sorted : (numbers sorted : List ℕ) → IsPermutation numbers sorted → IsNonDecreasing sorted → AreDifferent sorted → (n : ℕ) → times n numbers ≤ 1
apart_sorted numbers sorted moved up differ n = omega (arith, times-moved n numbers sorted moved, once-each n sorted (rising sorted up differ))

pub sorted_apart : (numbers sorted : List ℕ) → IsPermutation numbers sorted → ((n : ℕ) → times n numbers ≤ 1) → AreDifferent sorted
sorted_apart numbers sorted moved apart i h same =
    let n = get_or sorted i 0 in
    omega (arith, apart n, times-moved n numbers sorted moved, times-twice n sorted i (i + 1) (omega arith) h refl (sym same))

-- if no two places have the same number, none occurs twice
pub once : (xs : List ℕ) → ((i j : ℕ) → i < j → j < length xs → get_or xs i 0 ≢ get_or xs j 0) → (n : ℕ) → times n xs ≤ 1
once [] apart n = omega arith
once (x ∷ xs) apart n = elim (cases_eq n x) [
  | inl same ↦ elim (cases_eq (times n xs) 0) [
    | inl none ↦ let one : once_if (eqb n x) ≡ 1 = rw (eq-eqb n x same) refl in omega arith
    | inr some ↦
        let found = place-of n xs (omega arith) in
        absurd (apart 0 (suc found.0) (omega arith) (omega (arith, found.1.0)) (sym same ∙ sym found.1.1))
  ]
  | inr off ↦
      let none : once_if (eqb n x) ≡ 0 = rw (ne_eqb n x off) refl in
      omega (arith, once xs (λ i j before h. apart (suc i) (suc j) (omega arith) (omega arith)) n)
]
