-- Marking sectors one by one.
use Rattle.std.proofs.Common.{◌≡◌, ◌≤◌, ◌<◌, ◌+◌, ◌-◌, ℕ, zero, suc, Bool, true, false, List, [], ◌∷◌, Option, Some, None, length, get_or, set, take, refl, ap, ◌∙◌, arith, inl, inr, eqb, lt-ltb, le-ltb, slice_get}
use Rattle.std.proofs.lemmas.Bool.{cases_lt, lt-leb, le-leb}
use Rattle.std.proofs.lemmas.List.{length-set}
use Rattle.freemap.specs.Places.{bit_from}
use Rattle.layout.specs.Marks.{once_if, times, times_set, mark_by}
use Rattle.layout.proofs.MarkProofs.{mark-prefix, mark-back, each_mark}
use Rattle.layout.proofs.NumberLaws.{once-here}
use Rattle.volume_load.specs.Marking.{max_marks, CanMark, AreMarked}

most-prefix : (first count n : ℕ) → n < first → max_marks first count n ≡ 0
most-prefix first count n h = rw (lt-leb first n h) refl

most-behind : (first count n : ℕ) → first + count ≤ n → max_marks first count n ≡ 0
most-behind first count n h = rw (le-leb first n (omega arith), le-ltb n (first + count) h) refl

pub most-in : (first count n : ℕ) → first ≤ n → n < first + count → max_marks first count n ≡ 1
most-in first count n low high = rw (le-leb first n low, lt-ltb n (first + count) high) refl

pub most-some : (first count n : ℕ) → 0 < max_marks first count n → (first ≤ n) × (n < first + count)
most-some first count n some = elim (cases_lt n first) [
  | inl low ↦ absurd (omega (arith, most-prefix first count n low))
  | inr high ↦ elim (cases_lt n (first + count)) [
    | inl below ↦ (high, below)
    | inr behind ↦ absurd (omega (arith, most-behind first count n behind))
  ]
]

pub most-le : (first count n : ℕ) → max_marks first count n ≤ 1
most-le first count n = elim (cases_lt n first) [
  | inl low ↦ omega (arith, most-prefix first count n low)
  | inr high ↦ elim (cases_lt n (first + count)) [
    | inl below ↦ omega (arith, most-in first count n high below)
    | inr behind ↦ omega (arith, most-behind first count n behind)
  ]
]

-- a sector that has all its marks cannot be marked again
cannot : (first : ℕ) (places : List Bool) (sector : ℕ) → max_marks first (length places) sector ≤ mark_by first places sector → CanMark first places (λ n. once_if (eqb n sector)) → ⊥
cannot first places sector full can = omega (arith, can sector, once-here sector)

pub cannot_prefix : (first : ℕ) (places : List Bool) (sector : ℕ) → sector < first → CanMark first places (λ n. once_if (eqb n sector)) → ⊥
cannot_prefix first places sector low = cannot first places sector (omega (arith, most-prefix first (length places) sector low))

pub cannot_behind : (first : ℕ) (places : List Bool) (sector : ℕ) → first + length places ≤ sector → CanMark first places (λ n. once_if (eqb n sector)) → ⊥
cannot_behind first places sector high = cannot first places sector (omega (arith, most-behind first (length places) sector high))

pub cannot_used : (first : ℕ) (places : List Bool) (sector : ℕ) → first ≤ sector → get_or places (sector - first) false ≡ true → CanMark first places (λ n. once_if (eqb n sector)) → ⊥
cannot_used first places sector high used =
    cannot first places sector (omega (arith, most-le first (length places) sector, mark-back first places sector high ∙ ap bit_from used))

pub marks_one : (first : ℕ) (places : List Bool) (place sector : ℕ) → first ≤ sector → place ≡ sector - first → slice_get places place ≡ Some false → AreMarked first places (set places place true) (λ n. once_if (eqb n sector))
marks_one first places place sector high at free =
    let each = each_mark first places place in
    let is : first + place ≡ sector = omega arith in
    record {
      len = length-set places place true;
      marks = λ n. each.taken free n ∙ ap (λ (s : ℕ). mark_by first places n + once_if (eqb n s)) is;
    }

-- One by one

pub marked_none : (first : ℕ) (places : List Bool) (often : ℕ → ℕ) → ((n : ℕ) → often n ≡ 0) → AreMarked first places places often
marked_none first places often none = record { len = refl; marks = λ n. omega (arith, none n) }

pub marked_more : (first : ℕ) (old mid new : List Bool) (often more all : ℕ → ℕ) → ((n : ℕ) → often n + more n ≡ all n) → AreMarked first old mid often → AreMarked first mid new more → AreMarked first old new all
marked_more first old mid new often more all sums was is = record {
  len = is.len ∙ was.len;
  marks = λ n. omega (arith, is.marks n, was.marks n, sums n);
}

pub can_more : (first : ℕ) (old mid : List Bool) (often more all : ℕ → ℕ) → ((n : ℕ) → often n + more n ≤ all n) → AreMarked first old mid often → CanMark first old all → CanMark first mid more
can_more first old mid often more all sums was can n =
    let same : max_marks first (length mid) n ≡ max_marks first (length old) n = ap (λ (count : ℕ). max_marks first count n) was.len in
    omega (arith, can n, was.marks n, sums n, same)

pub times-take : (n : ℕ) (sectors : List ℕ) (i d : ℕ) → i < length sectors → times n (take (i + 1) sectors) ≡ times n (take i sectors) + once_if (eqb n (get_or sectors i d))
times-take n sectors i d h = let e : i + 1 ≡ suc i = omega arith in ap (λ (k : ℕ). times n (take k sectors)) e ∙ step n sectors i d h
  where
    step : (n : ℕ) (sectors : List ℕ) (i d : ℕ) → i < length sectors → times n (take (suc i) sectors) ≡ times n (take i sectors) + once_if (eqb n (get_or sectors i d))
    step n [] i d h = absurd (omega arith)
    step n (s ∷ sectors) zero d h = omega arith
    step n (s ∷ sectors) (suc i) d h = omega (arith, step n sectors i d (omega arith))

pub times-prefix : (n : ℕ) (sectors : List ℕ) (i : ℕ) → times n (take i sectors) ≤ times n sectors
times-prefix n sectors zero = omega arith
times-prefix n [] (suc i) = omega arith
times-prefix n (s ∷ sectors) (suc i) = omega (arith, times-prefix n sectors i)

pub times_set-take : (n : ℕ) (blocks : List (Option ℕ)) (i : ℕ) → i < length blocks → times_set n (take (i + 1) blocks) ≡ times_set n (take i blocks) + times_set n (get_or blocks i None ∷ [])
times_set-take n blocks i h = let e : i + 1 ≡ suc i = omega arith in ap (λ (k : ℕ). times_set n (take k blocks)) e ∙ step n blocks i h
  where
    step : (n : ℕ) (blocks : List (Option ℕ)) (i : ℕ) → i < length blocks → times_set n (take (suc i) blocks) ≡ times_set n (take i blocks) + times_set n (get_or blocks i None ∷ [])
    step n [] i h = absurd (omega arith)
    step n (None ∷ blocks) zero h = omega arith
    step n (Some s ∷ blocks) zero h = omega arith
    step n (None ∷ blocks) (suc i) h = step n blocks i (omega arith)
    step n (Some s ∷ blocks) (suc i) h = omega (arith, step n blocks i (omega arith))

pub times_set-one : (n : ℕ) (block : Option ℕ) (sector : ℕ) → block ≡ Some sector → times_set n (block ∷ []) ≡ once_if (eqb n sector)
times_set-one n block sector is = ap (λ (b : Option ℕ). times_set n (b ∷ [])) is ∙ plus (once_if (eqb n sector))
  where
    plus : (k : ℕ) → k + 0 ≡ k
    plus k = omega arith

-- marks are at most these
pub can_marked : (first : ℕ) (places : List Bool) (n : ℕ) → mark_by first places n ≤ max_marks first (length places) n
can_marked first places n =
    let each = each_mark first places 0 in
    elim (cases_lt n first) [
      | inl low ↦ omega (arith, mark-prefix first places n low)
      | inr high ↦ elim (cases_lt n (first + length places)) [
        | inl below ↦ omega (arith, most-in first (length places) n high below, each.once n)
        | inr behind ↦ omega (arith, each.within n behind)
      ]
    ]
