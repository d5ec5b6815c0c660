-- Blocks that runs lay out, one run after the other.
use Rattle.std.proofs.Common.{◌≡◌, ◌<◌, ◌≤◌, ◌+◌, ◌-◌, ◌^◌, ℕ, true, false, cond, ltb, List, [], ◌∷◌, ◌++◌, Option, Some, None, length, get_or, take, drop, replicate, sym, ap, subst, ◌∙◌, arith, inl, inr}
use Rattle.std.proofs.lemmas.Bool.{cases_lt, cases_eq, lt-ltb, le-ltb}
use Rattle.std.proofs.lemmas.List.{length-append, length_push, take_all, take_more, drop_more, get_or_past, get_or_push, get_or_append_left}
use Rattle.extents.specs.declared.run.Run.{Run}
use Rattle.extents.specs.Runs.{sector_by, AreRising, AreRunsOf, IsLaidBehind, with_holes}
use Rattle.extents.proofs.Holes.{get_or-holes}
use Rattle.extents.proofs.RunLemmas.{AreRising-widen, AreRising-push, sector_by-behind, sector_by-push_other, sector_by-push_new, one-before, one-yes, one-behind}

-- ---- one run

-- the first i blocks of a run
abbrev pub prefix_of : Run → ℕ → Run
prefix_of run i = record run { length = i }

pub record IsLaidTo (old : List (Option ℕ)) (run : Run) (i : ℕ) (new : List (Option ℕ)) : Type 0 where
  pub len : length new ≡ run.block + i
  pub blocks : IsLaidBehind old (prefix_of run i) new

-- what a place has, by whether it was there before
decided : (old : List (Option ℕ)) (x : Option ℕ) (k : ℕ) → (k < length old → x ≡ get_or old k None) → (y : Option ℕ) → (length old ≤ k → x ≡ y) → x ≡ cond (ltb k (length old)) (get_or old k None) y
decided old x k prefix y back =
    elim (cases_lt k (length old)) [
      | inl lt ↦ let test : ltb k (length old) ≡ true = lt-ltb k (length old) lt in rw test (prefix lt)
      | inr le ↦ let test : ltb k (length old) ≡ false = le-ltb k (length old) le in rw test (back le)
    ]

undecided_prefix : (old : List (Option ℕ)) (x y : Option ℕ) (k : ℕ) → x ≡ cond (ltb k (length old)) (get_or old k None) y → k < length old → x ≡ get_or old k None
undecided_prefix old x y k e lt = let test : ltb k (length old) ≡ true = lt-ltb k (length old) lt in rw test at e

undecided_back : (old : List (Option ℕ)) (x y : Option ℕ) (k : ℕ) → x ≡ cond (ltb k (length old)) (get_or old k None) y → length old ≤ k → x ≡ y
undecided_back old x y k e le = let test : ltb k (length old) ≡ false = le-ltb k (length old) le in rw test at e

module _ (old : List (Option ℕ)) (run : Run) (i : ℕ) (new : List (Option ℕ)) (laid : IsLaidTo old run i new) (behind : length old ≤ run.block) where
  more_at : (k : ℕ) → length old ≤ k → get_or (new ++ Some (run.sector + i) ∷ []) k None ≡ sector_by (prefix_of run (i + 1) ∷ []) k
  more_at k past =
      let so_far : k < run.block + i → get_or (new ++ Some (run.sector + i) ∷ []) k None ≡ sector_by (prefix_of run i ∷ []) k =
      λ lt. let within : k < length new = omega (arith, laid.len) in
      get_or_append_left new (Some (run.sector + i) ∷ []) None k within
      ∙ undecided_back old (get_or new k None) (sector_by (prefix_of run i ∷ []) k) k (laid.blocks k) past in
      elim (cases_lt k (run.block + i)) [
        | inl lt ↦
            elim (cases_lt k run.block) [
              | inl low ↦ so_far lt ∙ one-before (prefix_of run i) k low ∙ sym (one-before (prefix_of run (i + 1)) k low)
              | inr high ↦ so_far lt ∙ one-yes (prefix_of run i) k high lt ∙ sym (one-yes (prefix_of run (i + 1)) k high (omega arith))
            ]
        | inr le ↦
            elim (cases_eq k (run.block + i)) [
              | inl here ↦
                  let last : get_or (new ++ Some (run.sector + i) ∷ []) k None ≡ Some (run.sector + i) = get_or_push new (Some (run.sector + i)) None k (laid.len ∙ sym here) in
                  let place : i ≡ k - run.block = omega arith in
                  last ∙ ap (λ (n : ℕ). Some (run.sector + n)) place ∙ sym (one-yes (prefix_of run (i + 1)) k (omega arith) (omega arith))
              | inr apart ↦
                  let over : length (new ++ Some (run.sector + i) ∷ []) ≤ k = omega (arith, length_push new (Some (run.sector + i)), laid.len) in
                  get_or_past (new ++ Some (run.sector + i) ∷ []) k None over ∙ sym (one-behind (prefix_of run (i + 1)) k (omega arith))
            ]
      ]

  more_before : (k : ℕ) → k < length old → get_or (new ++ Some (run.sector + i) ∷ []) k None ≡ get_or old k None
  more_before k lt =
      let within : k < length new = omega (arith, laid.len) in
      get_or_append_left new (Some (run.sector + i) ∷ []) None k within ∙ undecided_prefix old (get_or new k None) (sector_by (prefix_of run i ∷ []) k) k (laid.blocks k) lt

  pub IsLaidTo-more : IsLaidTo old run (i + 1) (new ++ Some (run.sector + i) ∷ [])
  IsLaidTo-more = record {
    len = omega (arith, length_push new (Some (run.sector + i)), laid.len);
    blocks = λ k. decided old (get_or (new ++ Some (run.sector + i) ∷ []) k None) k (more_before k) (sector_by (prefix_of run (i + 1) ∷ []) k) (more_at k);
  }

-- ---- all runs

-- the first i runs are laid out in `blocks`, and the others can be if all of them can
pub record AreLaid (count : ℕ) (runs : List Run) (i : ℕ) (blocks : List (Option ℕ)) : Type 0 where
  pub within : length blocks ≤ count
  pub rising : AreRising 0 (length blocks) (take i runs)
  pub same : (k : ℕ) → get_or blocks k None ≡ sector_by (take i runs) k
  pub rest : AreRising 0 count runs → AreRising (length blocks) count (drop i runs)

-- what is required of a run after `from` blocks
abbrev pub IsNext : (from count : ℕ) → Run → Type 0
IsNext from count run = (from ≤ run.block) × (0 < run.length) × (run.block + run.length ≤ count) × (run.sector + run.length ≤ 2 ^ 32)

module _ (count : ℕ) (runs : List Run) (i : ℕ) (blocks : List (Option ℕ)) (laid : AreLaid count runs i blocks) (run : Run) (h : i < length runs) (is : run ≡ get_or runs i run) where
  rest_is : drop i runs ≡ run ∷ drop (i + 1) runs
  rest_is = drop_more runs i run h ∙ ap (λ (r : Run). r ∷ drop (i + 1) runs) (sym is)

  prefix_is : take (i + 1) runs ≡ take i runs ++ run ∷ []
  prefix_is = take_more runs i run h ∙ ap (λ (r : Run). take i runs ++ r ∷ []) (sym is)

  pub next_of : AreRising 0 count runs → IsNext (length blocks) count run × AreRising (run.block + run.length) count (drop (i + 1) runs)
  next_of rising =
      let all : AreRising (length blocks) count (run ∷ drop (i + 1) runs) = subst (AreRising (length blocks) count) rest_is (laid.rest rising) in
      ((all.0, all.1, all.2, all.3), all.4)

  same_after : (new : List (Option ℕ)) → length blocks ≤ run.block → IsLaidBehind blocks run new → (k : ℕ) → get_or new k None ≡ sector_by (take i runs ++ run ∷ []) k
  same_after new behind put k =
      elim (cases_lt k (length blocks)) [
        | inl lt ↦
            undecided_prefix blocks (get_or new k None) (sector_by (run ∷ []) k) k (put k) lt ∙ laid.same k ∙ sym (sector_by-push_other (take i runs) run k (one-before run k (omega arith)))
        | inr past ↦
            undecided_back blocks (get_or new k None) (sector_by (run ∷ []) k) k (put k) past ∙ sym (sector_by-push_new (take i runs) run k (sector_by-behind 0 (length blocks) (take i runs) k laid.rising past))
      ]

  pub AreLaid-more : (new : List (Option ℕ)) → IsNext (length blocks) count run → length new ≡ run.block + run.length → IsLaidBehind blocks run new → AreLaid count runs (i + 1) new
  AreLaid-more new next len put = record {
    within = omega (arith, len, next.2);
    rising = rw (len, prefix_is) (AreRising-push 0 (length blocks) (run.block + run.length) (take i runs) run laid.rising (omega arith) next.0 next.1 (omega arith) next.3);
    same = λ k. rw prefix_is (same_after new next.0 put k);
    rest = λ rising. rw len ((next_of rising).1);
  }

longer : (blocks : List (Option ℕ)) (count : ℕ) → length blocks ≤ length (with_holes blocks count)
longer blocks count = omega (arith, length-append blocks (replicate (count - length blocks) None))

pub AreRunsOf-laid : (count : ℕ) (runs : List Run) (blocks : List (Option ℕ)) → AreLaid count runs (length runs) blocks → AreRunsOf runs (with_holes blocks count)
AreRunsOf-laid count runs blocks laid =
    let whole : take (length runs) runs ≡ runs = take_all (length runs) runs (omega arith) in
    let rising : AreRising 0 (length blocks) runs = subst (AreRising 0 (length blocks)) whole laid.rising in
    record {
      rising = AreRising-widen 0 (length blocks) (length (with_holes blocks count)) runs (longer blocks count) rising;
      same = λ k. get_or-holes blocks (count - length blocks) k ∙ laid.same k ∙ ap (λ (rs : List Run). sector_by rs k) whole;
    }
