-- Sums over all places below a number, and over a list of distinct places.
use Rattle.std.proofs.Common.{◌≡◌, ◌≢◌, ◌≤◌, ◌<◌, ◌+◌, ◌++◌, ℕ, zero, suc, Bool, true, false, List, [], ◌∷◌, length, take, get_or, refl, sym, ap, ◌∙◌, arith, inl, inr, eqb, eq-eqb, ne_eqb}
use Rattle.std.proofs.lemmas.Bool.{cases_eq, cases_lt}
use Rattle.layout.specs.Marks.{once_if, times}
use Rattle.layout.proofs.NumberLaws.{once-here}

-- f 0 + .. + f (n - 1)
abbrev pub sum_below : (ℕ → ℕ) → ℕ → ℕ
sum_below f zero = 0
sum_below f (suc n) = f 0 + sum_below (λ i. f (suc i)) n

abbrev pub sum_of : (ℕ → ℕ) → List ℕ → ℕ
sum_of f [] = 0
sum_of f (p ∷ ps) = f p + sum_of f ps

-- `n` times `k`
abbrev pub many : ℕ → ℕ → ℕ
many zero k = 0
many (suc n) k = k + many n k

-- Sums over all places

pub sum-same : (f g : ℕ → ℕ) (n : ℕ) → ((i : ℕ) → i < n → f i ≡ g i) → sum_below f n ≡ sum_below g n
sum-same f g zero same = refl
sum-same f g (suc n) same =
    omega (arith, same 0 (omega arith), sum-same (λ i. f (suc i)) (λ i. g (suc i)) n (λ i h. same (suc i) (omega arith)))

pub sum-le : (f g : ℕ → ℕ) (n : ℕ) → ((i : ℕ) → i < n → f i ≤ g i) → sum_below f n ≤ sum_below g n
sum-le f g zero le = omega arith
sum-le f g (suc n) le =
    omega (arith, le 0 (omega arith), sum-le (λ i. f (suc i)) (λ i. g (suc i)) n (λ i h. le (suc i) (omega arith)))

pub sum-zero : (f : ℕ → ℕ) (n : ℕ) → ((i : ℕ) → i < n → f i ≡ 0) → sum_below f n ≡ 0
sum-zero f zero none = refl
sum-zero f (suc n) none = omega (arith, none 0 (omega arith), sum-zero (λ i. f (suc i)) n (λ i h. none (suc i) (omega arith)))

pub sum-ones : (n : ℕ) → sum_below (λ i. 1) n ≡ n
sum-ones zero = refl
sum-ones (suc n) = omega (arith, sum-ones n)

sum-plus : (f g : ℕ → ℕ) (n : ℕ) → sum_below (λ i. f i + g i) n ≡ sum_below f n + sum_below g n
sum-plus f g zero = omega arith
sum-plus f g (suc n) = omega (arith, sum-plus (λ i. f (suc i)) (λ i. g (suc i)) n)

-- if one is nowhere above the other, and the sums are equal, so are they
pub sum-each : (f g : ℕ → ℕ) (n : ℕ) → ((i : ℕ) → i < n → f i ≤ g i) → sum_below g n ≤ sum_below f n → (i : ℕ) → i < n → g i ≤ f i
sum-each f g zero le total i h = absurd (omega arith)
sum-each f g (suc n) le total zero h =
    omega (arith, total, sum-le (λ i. f (suc i)) (λ i. g (suc i)) n (λ i h. le (suc i) (omega arith)))
sum-each f g (suc n) le total (suc i) h =
    sum-each (λ i. f (suc i)) (λ i. g (suc i)) n (λ i h. le (suc i) (omega arith)) (omega (arith, total, le 0 (omega arith))) i (omega arith)

-- Sums over a list

many-hit : (i x k : ℕ) → i ≡ x → many (once_if (eqb i x)) k ≡ k
many-hit i x k same = rw (eq-eqb i x same) (omega arith)

many-miss : (i x k : ℕ) → i ≢ x → many (once_if (eqb i x)) k ≡ 0
many-miss i x k off = rw (ne_eqb i x off) refl

many-plus : (b : Bool) (m k : ℕ) → many (once_if b + m) k ≡ many (once_if b) k + many m k
many-plus true m k =
    let e : 1 + m ≡ suc m = omega arith in
    ap (λ n. many n k) e ∙ omega arith
many-plus false m k =
    let e : 0 + m ≡ m = omega arith in
    ap (λ n. many n k) e ∙ omega arith

many-le : (n k : ℕ) → n ≤ 1 → many n k ≤ k
many-le zero k few = omega arith
many-le (suc zero) k few = omega arith
many-le (suc (suc n)) k few = absurd (omega arith)

sum-pick : (f : ℕ → ℕ) (n x : ℕ) → x < n → sum_below (λ i. many (once_if (eqb i x)) (f i)) n ≡ f x
sum-pick f zero x h = absurd (omega arith)
sum-pick f (suc n) zero h =
    omega (arith, many-hit 0 0 (f 0) refl, sum-zero (λ i. many (once_if (eqb (suc i) 0)) (f (suc i))) n (λ i h. many-miss (suc i) 0 (f (suc i)) (λ e. omega arith)))
sum-pick f (suc n) (suc x) h =
    omega (
      arith,
      many-miss 0 (suc x) (f 0) (λ e. omega arith),
      sum-same (λ i. many (once_if (eqb (suc i) (suc x))) (f (suc i))) (λ i. many (once_if (eqb i x)) (f (suc i))) n (λ i h. elim (cases_eq i x) [
        | inl e ↦ many-hit (suc i) (suc x) (f (suc i)) (omega arith) ∙ sym (many-hit i x (f (suc i)) e)
        | inr off ↦ many-miss (suc i) (suc x) (f (suc i)) (λ e. off (omega arith)) ∙ sym (many-miss i x (f (suc i)) off)
      ]),
      sum-pick (λ i. f (suc i)) n x (omega arith),
    )

-- all places of the list are below n
abbrev pub AreBelow : (n : ℕ) → List ℕ → Type 0
AreBelow n ps = (p : ℕ) → n ≤ p → times p ps ≡ 0

pub sum_of-below : (f : ℕ → ℕ) (n : ℕ) (ps : List ℕ) → AreBelow n ps → sum_of f ps ≡ sum_below (λ p. many (times p ps) (f p)) n
sum_of-below f n [] far = sym (sum-zero (λ p. many 0 (f p)) n (λ i h. refl))
sum_of-below f n (x ∷ ps) far = elim (cases_lt x n) [
  | inl inside ↦ omega (
    arith,
    sum_of-below f n ps (λ p h. omega (arith, far p h)),
    sum-pick f n x inside,
    sum-same (λ p. many (once_if (eqb p x) + times p ps) (f p)) (λ p. many (once_if (eqb p x)) (f p) + many (times p ps) (f p)) n (λ p h. many-plus (eqb p x) (times p ps) (f p)),
    sum-plus (λ p. many (once_if (eqb p x)) (f p)) (λ p. many (times p ps) (f p)) n,
  )
  | inr past ↦ absurd (omega (arith, far x (omega arith), once-here x))
]

-- a sum over distinct places is at most the one over all, and equals it if they include each that
-- counts
pub sum_of-le : (f : ℕ → ℕ) (n : ℕ) (ps : List ℕ) → AreBelow n ps → ((p : ℕ) → times p ps ≤ 1) → sum_of f ps ≤ sum_below f n
sum_of-le f n ps far few =
    omega (arith, sum_of-below f n ps far, sum-le (λ p. many (times p ps) (f p)) f n (λ p h. many-le (times p ps) (f p) (few p)))

many-same : (n k : ℕ) → n ≤ 1 → (0 < k → 0 < n) → many n k ≡ k
many-same zero zero few has = refl
many-same zero (suc k) few has = absurd (omega (arith, has (omega arith)))
many-same (suc zero) k few has = omega arith
many-same (suc (suc n)) k few has = absurd (omega arith)

pub sum_of-all : (f : ℕ → ℕ) (n : ℕ) (ps : List ℕ) → AreBelow n ps → ((p : ℕ) → times p ps ≤ 1) → ((p : ℕ) → p < n → 0 < f p → 0 < times p ps)
    → sum_of f ps ≡ sum_below f n
sum_of-all f n ps far few has =
    sum_of-below f n ps far ∙ sum-same (λ p. many (times p ps) (f p)) f n (λ p h. many-same (times p ps) (f p) (few p) (has p h))

pub length-sum : (ps : List ℕ) → length ps ≡ sum_of (λ p. 1) ps
length-sum [] = refl
length-sum (p ∷ ps) = omega (arith, length-sum ps)

-- How often a number occurs in lists

-- the element at a place counts in addition to those before it
pub times-split : (n : ℕ) (xs : List ℕ) (i d : ℕ) → i < length xs → times n (take i xs) + once_if (eqb n (get_or xs i d)) ≤ times n xs
times-split n [] i d h = absurd (omega arith)
times-split n (x ∷ xs) zero d h = omega arith
times-split n (x ∷ xs) (suc i) d h = omega (arith, times-split n xs i d (omega arith))

pub sum_of-at : (f : ℕ → ℕ) (ps : List ℕ) (i : ℕ) → i < length ps → f (get_or ps i 0) ≤ sum_of f ps
sum_of-at f [] i h = absurd (omega arith)
sum_of-at f (p ∷ ps) zero h = omega arith
sum_of-at f (p ∷ ps) (suc i) h = omega (arith, sum_of-at f ps i (omega arith))

pub take-one : (xs : List ℕ) (i d : ℕ) → i < length xs → take (suc i) xs ≡ take i xs ++ get_or xs i d ∷ []
take-one [] i d h = absurd (omega arith)
take-one (x ∷ xs) zero d h = refl
take-one (x ∷ xs) (suc i) d h = ap (λ rest. x ∷ rest) (take-one xs i d (omega arith))

pub take-all : (xs : List ℕ) → take (length xs) xs ≡ xs
take-all [] = refl
take-all (x ∷ xs) = ap (λ rest. x ∷ rest) (take-all xs)
