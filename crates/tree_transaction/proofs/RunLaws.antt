-- The shortest list of runs is no longer than any other.
use Rattle.std.proofs.Common.{◌≡◌, ◌≤◌, ◌<◌, ◌+◌, ◌-◌, ℕ, List, [], ◌∷◌, Option, Some, None, length, get_or, take, refl, sym, ap, ◌∙◌, arith, inl, inr}
use Rattle.std.proofs.lemmas.Bool.{cases_order, cases_lt}
use Rattle.std.proofs.lemmas.List.{length-take, get_or-take}
use Rattle.std.proofs.lemmas.Option.{same_Some, none-some}
use Rattle.extents.specs.declared.run.Run.{Run}
use Rattle.extents.specs.Runs.{sector_by, AreRising, RunsApart}
use Rattle.extents.proofs.RunLemmas.{is_in-yes, is_in-before, is_in-behind}
use Rattle.layout.specs.CachedNodes.{CachedNode}
use Rattle.layout.specs.Known.{IsCached}
use Rattle.tree_transaction.specs.Laying.{HasEnough}

-- what runs have before the first, in it, and after it

before : (from limit k : ℕ) (runs : List Run) → AreRising from limit runs → k < from → sector_by runs k ≡ None
before from limit k [] rising low = refl
before from limit k (run ∷ runs) rising low =
    rw (is_in-before run k (omega (arith, rising.0))) (before (run.block + run.length) limit k runs rising.4 (omega (arith, rising.0)))

inside : (run : Run) (runs : List Run) (k : ℕ) → run.block ≤ k → k < run.block + run.length → sector_by (run ∷ runs) k ≡ Some (run.sector + (k - run.block))
inside run runs k low high = rw (is_in-yes run k low high) refl

behind : (run : Run) (runs : List Run) (k : ℕ) → run.block + run.length ≤ k → sector_by (run ∷ runs) k ≡ sector_by runs k
behind run runs k high = rw (is_in-behind run k high) refl

at_first : (run : Run) (runs : List Run) → 0 < run.length → sector_by (run ∷ runs) run.block ≡ Some run.sector
at_first run runs some =
    let same : run.sector + (run.block - run.block) ≡ run.sector = omega arith in
    inside run runs run.block (omega arith) (omega arith) ∙ ap (λ (s : ℕ). Some s) same

-- runs from a block on, up to a limit, and others that have the same sectors there
abbrev AreSame : (runs others : List Run) (from limit : ℕ) → Type 0
AreSame runs others from limit = (k : ℕ) → from ≤ k → k < limit → sector_by runs k ≡ sector_by others k

-- the first ones begin together
same_block : (run other : Run) (runs others : List Run) (from limit count : ℕ) → AreRising from limit (run ∷ runs) → AreRising from count (other ∷ others) → AreSame (run ∷ runs) (other ∷ others) from limit → run.block ≡ other.block
same_block run other runs others from limit count rising up same = elim (cases_order run.block other.block) [
  | inl e ↦ e
  | inr off ↦ elim off [
    | inl low ↦
        let none = before other.block count run.block (other ∷ others) (omega arith, up.1, up.2, up.3, up.4) low in
        absurd (none-some run.sector (sym none ∙ sym (same run.block rising.0 (omega (arith, rising.1, rising.2))) ∙ at_first run runs rising.1))
    | inr high ↦
        let none = before run.block limit other.block (run ∷ runs) (omega arith, rising.1, rising.2, rising.3, rising.4) high in
        absurd (none-some other.sector (sym none ∙ same other.block up.0 (omega (arith, rising.1, rising.2)) ∙ at_first other others up.1))
  ]
]

same_sector : (run other : Run) (runs others : List Run) (from limit count : ℕ) → AreRising from limit (run ∷ runs) → AreRising from count (other ∷ others) → AreSame (run ∷ runs) (other ∷ others) from limit → run.sector ≡ other.sector
same_sector run other runs others from limit count rising up same =
    let block = same_block run other runs others from limit count rising up same in
    same_Some run.sector other.sector (sym (at_first run runs rising.1) ∙ same run.block rising.0 (omega (arith, rising.1, rising.2)) ∙ ap (sector_by (other ∷ others)) block ∙ at_first other others up.1)

-- a run that goes on in the other list is followed by none here
runs_on : (run other : Run) (runs others : List Run) (from limit count : ℕ) → AreRising from limit (run ∷ runs) → RunsApart (run ∷ runs) → AreRising from count (other ∷ others) → AreSame (run ∷ runs) (other ∷ others) from limit → run.length < other.length
    → length runs ≤ 0
runs_on run other [] others from limit count rising apart up same longer = omega arith
runs_on run other (next ∷ runs) others from limit count rising apart up same longer =
    let block = same_block run other (next ∷ runs) others from limit count rising up same in
    let sector = same_sector run other (next ∷ runs) others from limit count rising up same in
    let end : ℕ = run.block + run.length in
    let low : end < limit = omega (arith, rising.4.0, rising.4.1, rising.4.2) in
    let goes : sector_by (other ∷ others) end ≡ Some (run.sector + run.length) =
    inside other others end (omega arith) (omega arith) ∙ (let e : other.sector + (end - other.block) ≡ run.sector + run.length = omega arith in ap (λ (s : ℕ). Some s) e) in
    let here : sector_by (next ∷ runs) end ≡ Some (run.sector + run.length) = sym (behind run (next ∷ runs) end (omega arith)) ∙ same end (omega (arith, rising.0)) low ∙ goes in
    elim (cases_lt end next.block) [
      | inl gap ↦ absurd (none-some (run.sector + run.length) (sym (before next.block limit end (next ∷ runs) (omega arith, rising.4.1, rising.4.2, rising.4.3, rising.4.4) gap) ∙ here))
      | inr meets ↦
          let at : next.block ≡ end = omega (arith, rising.4.0) in
          let s : next.sector ≡ run.sector + run.length = same_Some next.sector (run.sector + run.length) (sym (at_first next runs rising.4.1) ∙ ap (sector_by (next ∷ runs)) at ∙ here) in
          absurd (apart.0 (at, s))
    ]

-- what is left of a run
abbrev rest_of : Run → (count : ℕ) → Run
rest_of run count = record { block = run.block + count; length = run.length - count; sector = run.sector + count }

rest_apart : (run : Run) (count : ℕ) (runs : List Run) → count ≤ run.length → RunsApart (run ∷ runs) → RunsApart (rest_of run count ∷ runs)
rest_apart run count [] few apart = tt
rest_apart run count (next ∷ runs) few apart = ((λ join. apart.0 (omega (arith, join.0), omega (arith, join.1))), apart.1)

apart_behind : (run : Run) (runs : List Run) → RunsApart (run ∷ runs) → RunsApart runs
apart_behind run [] apart = tt
apart_behind run (next ∷ runs) apart = apart.1

pub fewest : (others runs : List Run) (from limit count : ℕ) → AreRising from limit runs → RunsApart runs → AreRising from count others → AreSame runs others from limit → length runs ≤ length others
fewest others [] from limit count rising apart up same = omega arith
fewest [] (run ∷ runs) from limit count rising apart up same =
    absurd (none-some run.sector (sym (same run.block rising.0 (omega (arith, rising.1, rising.2))) ∙ at_first run runs rising.1))
fewest (other ∷ others) (run ∷ runs) from limit count rising apart up same =
    let block = same_block run other runs others from limit count rising up same in
    let sector = same_sector run other runs others from limit count rising up same in
    elim (cases_order other.length run.length) [
      | inl e ↦
          let more = fewest others runs (run.block + run.length) limit count rising.4 (apart_behind run runs apart)
          (let to : other.block + other.length ≡ run.block + run.length = omega arith in rw (sym to) up.4)
          (λ k low high. sym (behind run runs k low) ∙ same k (omega (arith, rising.0)) high ∙ behind other others k (omega arith)) in
          omega arith
      | inr off ↦ elim off [
        | inl shorter ↦
            let left : Run = rest_of run other.length in
            let more = fewest others (left ∷ runs) (run.block + other.length) limit count
            (omega arith, omega arith, omega (arith, rising.2), omega (arith, rising.3), (let to : left.block + left.length ≡ run.block + run.length = omega arith in rw to rising.4))
            (rest_apart run other.length runs (omega arith) apart)
            (let to : other.block + other.length ≡ run.block + other.length = omega arith in rw (sym to) up.4)
            (λ k low high. elim (cases_lt k (run.block + run.length)) [
              | inl in_run ↦
                  let e : left.sector + (k - left.block) ≡ run.sector + (k - run.block) = omega arith in
                  inside left runs k low (omega arith) ∙ ap (λ (s : ℕ). Some s) e ∙ sym (inside run runs k (omega arith) in_run) ∙ same k (omega (arith, rising.0)) high ∙ behind other others k (omega arith)
              | inr past ↦ behind left runs k (omega arith) ∙ sym (behind run runs k past) ∙ same k (omega (arith, rising.0)) high ∙ behind other others k (omega arith)
            ]) in
            omega arith
        | inr longer ↦ omega (arith, runs_on run other runs others from limit count rising apart up same longer)
      ]
    ]

-- so a cached node that keeps its first blocks needs no more run sectors than it has
pub enough : (was cached : CachedNode) (count : ℕ) → IsCached was → cached.blocks ≡ take count was.blocks → cached.fields.run_sectors ≡ was.fields.run_sectors → HasEnough cached
enough was cached count known blocks sectors runs are apart =
    let own = known.runs in
    let fits = known.fits in
    let long = ap length blocks in
    let numbers = ap length sectors in
    let few = fewest was.runs runs 0 (length cached.blocks) (length was.blocks) are.rising apart own.rising
    (λ k low high. sym (are.same k) ∙ ap (λ (b : List (Option ℕ)). get_or b k None) blocks ∙ get_or-take count was.blocks k None (omega (arith, long, length-take count was.blocks)) ∙ own.same k) in
    omega (arith, few, numbers, fits.run_sectors, known.run_count)
