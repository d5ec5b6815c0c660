-- Runs that are made of blocks, from the first on.
use Rattle.std.proofs.Common.{◌≡◌, ◌≢◌, ◌<◌, ◌≤◌, ◌+◌, ◌-◌, ◌^◌, ℕ, true, cond, List, [], ◌∷◌, ◌++◌, Option, Some, None, length, get_or, take, count_by, is_some, sym, ap, ◌∙◌, arith, inl, inr, below_more}
use Rattle.std.specs.List.{AllByRecursion}
use Rattle.std.proofs.lemmas.Bool.{cases_lt}
use Rattle.std.proofs.lemmas.List.{length_push, take-take, get_or_past}
use Rattle.std.proofs.lemmas.List.Sums.{sum_by-take-le, count_by_more_yes}
use Rattle.extents.specs.declared.run.Run.{Run}
use Rattle.extents.specs.Runs.{sector_by, RunsApart, CanJoin, AreRising, AreRunsOf, IsRunAt}
use Rattle.extents.specs.Sector.{IsRun}
use Rattle.sector.specs.Written.{each_push}
use Rattle.extents.proofs.RunLemmas.{AreRising-widen, AreRising-push, sector_by-behind, sector_by-push_other, sector_by-push_new, one-before, one-yes}

-- the run does not go on after its last block
abbrev pub IsEnded : List (Option ℕ) → Run → Type 0
IsEnded blocks run = get_or blocks (run.block + run.length) None ≢ Some (run.sector + run.length)

-- the runs of the first n blocks
pub record AreRunsSoFar (blocks : List (Option ℕ)) (n : ℕ) (runs : List Run) : Type 0 where
  pub within : n ≤ length blocks
  pub rising : AreRising 0 n runs
  pub same : (k : ℕ) → k < n → get_or blocks k None ≡ sector_by runs k
  pub few : length runs ≤ count_by is_some (take n blocks)
  pub ended : AllByRecursion (IsEnded blocks) runs
  pub apart : RunsApart runs

count-take : (blocks : List (Option ℕ)) (n m : ℕ) → n ≤ m → count_by is_some (take n blocks) ≤ count_by is_some (take m blocks)
count-take blocks n m le =
    let shorter : take n (take m blocks) ≡ take n blocks = take-take n m blocks le in
    rw (← shorter) (sum_by-take-le (λ block. cond (is_some block) 1 0) (take m blocks) n)

pub AreRunsSoFar-hole : (blocks : List (Option ℕ)) (n : ℕ) (runs : List Run) → AreRunsSoFar blocks n runs → n < length blocks → get_or blocks n None ≡ None → AreRunsSoFar blocks (n + 1) runs
AreRunsSoFar-hole blocks n runs far h hole = record {
  within = omega arith;
  rising = AreRising-widen 0 n (n + 1) runs (omega arith) far.rising;
  same = below_more (λ k. get_or blocks k None ≡ sector_by runs k) n far.same (hole ∙ sym (sector_by-behind 0 n runs n far.rising (omega arith)));
  few = omega (arith, far.few, count-take blocks n (n + 1) (omega arith));
  ended = far.ended;
  apart = far.apart;
}

AreApart-push : (runs : List Run) (run : Run) → RunsApart runs → AllByRecursion (λ r. ¬ CanJoin r run) runs → RunsApart (runs ++ run ∷ [])
AreApart-push [] run h none = tt
AreApart-push (r ∷ []) run h none = (none.0, tt)
AreApart-push (r ∷ next ∷ runs) run h none = (h.0, AreApart-push (next ∷ runs) run h.1 none.1)

module _ (blocks : List (Option ℕ)) (runs : List Run) (run : Run) (far : AreRunsSoFar blocks run.block runs) (at : IsRunAt blocks run.block run.sector run.length) where
  same_push : (k : ℕ) → k < run.block + run.length → get_or blocks k None ≡ sector_by (runs ++ run ∷ []) k
  same_push k h =
      elim (cases_lt k run.block) [
        | inl lt ↦ far.same k lt ∙ sym (sector_by-push_other runs run k (one-before run k lt))
        | inr le ↦
            let place : run.block + (k - run.block) ≡ k = omega arith in
            let here : get_or blocks (run.block + (k - run.block)) None ≡ Some (run.sector + (k - run.block)) = at.each (k - run.block) (omega arith) in
            ap (λ (i : ℕ). get_or blocks i None) (sym place) ∙ here ∙ sym (sector_by-push_new runs run k (sector_by-behind 0 run.block runs k far.rising le) ∙ one-yes run k le h)
      ]

  few_push : length (runs ++ run ∷ []) ≤ count_by is_some (take (run.block + run.length) blocks)
  few_push =
      let first : get_or blocks (run.block + 0) None ≡ Some (run.sector + 0) = at.each 0 at.some in
      let place : run.block + 0 ≡ run.block = omega arith in
      let set : is_some (get_or blocks run.block None) ≡ true = ap is_some (ap (λ (i : ℕ). get_or blocks i None) (sym place) ∙ first) in
      let one : count_by is_some (take (run.block + 1) blocks) ≡ count_by is_some (take run.block blocks) + 1 = count_by_more_yes is_some blocks run.block None (omega (arith, at.some, at.within)) set in
      omega (arith, length_push runs run, far.few, one, at.some, count-take blocks (run.block + 1) (run.block + run.length) (omega (arith, at.some)))

  -- a run that has ended is not joined with one after it
  none_joins : (rs : List Run) → AllByRecursion (IsEnded blocks) rs → AllByRecursion (λ r. ¬ CanJoin r run) rs
  none_joins [] h = tt
  none_joins (r ∷ rs) h =
      let first : get_or blocks (run.block + 0) None ≡ Some (run.sector + 0) = at.each 0 at.some in
      let place : run.block + 0 ≡ run.block = omega arith in
      let sector : run.sector + 0 ≡ run.sector = omega arith in
      let here : get_or blocks run.block None ≡ Some run.sector = ap (λ (i : ℕ). get_or blocks i None) (sym place) ∙ first ∙ ap (λ (n : ℕ). Some n) sector in
      (λ join. h.0 (ap (λ (i : ℕ). get_or blocks i None) (sym join.0) ∙ here ∙ ap (λ (n : ℕ). Some n) join.1), none_joins rs h.1)

  pub AreRunsSoFar-run : IsEnded blocks run → AreRunsSoFar blocks (run.block + run.length) (runs ++ run ∷ [])
  AreRunsSoFar-run end = record {
    within = at.within;
    rising = AreRising-push 0 run.block (run.block + run.length) runs run far.rising (omega arith) (omega arith) at.some (omega arith) at.fits;
    same = same_push;
    few = few_push;
    ended = each_push (IsEnded blocks) runs run far.ended end;
    apart = AreApart-push runs run far.apart (none_joins runs far.ended);
  }

module _ (blocks : List (Option ℕ)) (n : ℕ) (runs : List Run) (far : AreRunsSoFar blocks n runs) (all : length blocks ≤ n) where
  same_all : (k : ℕ) → get_or blocks k None ≡ sector_by runs k
  same_all k =
      elim (cases_lt k n) [
        | inl lt ↦ far.same k lt
        | inr le ↦ get_or_past blocks k None (omega arith) ∙ sym (sector_by-behind 0 n runs k far.rising le)
      ]

  pub AreRunsOf-all : AreRunsOf runs blocks
  AreRunsOf-all = record { rising = AreRising-widen 0 n (length blocks) runs far.within far.rising; same = same_all }

-- runs of so few blocks can be encoded
pub each_is_run : (from count : ℕ) (runs : List Run) → count ≤ 4096 → AreRising from count runs → AllByRecursion IsRun runs
each_is_run from count [] few h = tt
each_is_run from count (run ∷ runs) few h =
    (record { block = omega (arith, h.0, h.1, h.2); length = omega (arith, h.2); sector = omega (arith, h.1, h.3); some = h.1 }, each_is_run (run.block + run.length) count runs few h.4)

pub IsRunAt-more : (blocks : List (Option ℕ)) (start first n : ℕ) → IsRunAt blocks start first n → start + n < length blocks → get_or blocks (start + n) None ≡ Some (first + n) → first + n < 2 ^ 32 → IsRunAt blocks start first (n + 1)
IsRunAt-more blocks start first n at room here fits = record {
  some = omega arith;
  within = omega arith;
  fits = omega arith;
  each = below_more (λ k. get_or blocks (start + k) None ≡ Some (first + k)) n at.each here;
}
