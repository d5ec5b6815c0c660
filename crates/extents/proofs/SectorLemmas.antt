-- Runs in a run sector.
use Rattle.std.proofs.Common.{◌≡◌, ◌<◌, ◌≤◌, ◌+◌, ◌-◌, ◌*◌, ℕ, zero, suc, List, [], ◌∷◌, ◌++◌, length, get_or, take, drop, replicate, refl, sym, ap, ◌∙◌, arith, append_assoc, inl, inr}
use Rattle.std.specs.List.{flat_map, AllByRecursion}
use Rattle.std.proofs.lemmas.Bool.{cases_lt}
use Rattle.std.proofs.lemmas.List.{length_push, take_all, take_more, drop-drop, length-replicate, replicate-append-replicate}
use Rattle.sector.specs.Records.{AreWide, drop-record, drop-records_all}
use Rattle.extents.specs.declared.run.Run.{Run}
use Rattle.extents.specs.Sector.{run_bytes, header, run_sector, IsRun, FillSector}

wide : AreWide run_bytes 8
wide run = refl

-- ---- writing

-- the header, and the first n runs
abbrev pub written : List Run → ℕ → List ℕ
written runs n = header ++ flat_map run_bytes (take n runs)

pub record IsWritten (sector : List ℕ) (runs : List Run) (n : ℕ) : Type 0 where
  pub prefix : take (96 + 8 * n) sector ≡ written runs n
  pub len : length sector ≡ 4096

-- the zeros after the last run end the sector
pub run_sector-written : (old new : List ℕ) (runs : List Run) (end count : ℕ) → IsWritten old runs (length runs) → length runs ≤ 500 → end ≡ 96 + 8 * length runs → count ≡ 4096 - end → take (end + length (replicate {A = ℕ} count 0)) new ≡ take end old ++ replicate count 0
    → length new ≡ 4096 → new ≡ run_sector runs
run_sector-written old new runs end count far few place rest prefix len =
    let counted : length (replicate {A = ℕ} count 0) ≡ count = length-replicate count 0 in
    let whole : take (end + length (replicate {A = ℕ} count 0)) new ≡ new = take_all (end + length (replicate {A = ℕ} count 0)) new (omega (arith, counted)) in
    let zeros : count ≡ 4000 - 8 * length runs = omega arith in
    let all : take (length runs) runs ≡ runs = take_all (length runs) runs (omega arith) in
    sym whole ∙ prefix ∙ ap (λ (i : ℕ). take i old ++ replicate count 0) place ∙ ap (λ (bytes : List ℕ). bytes ++ replicate count 0) far.prefix
    ∙ ap (λ (rs : List Run). header ++ flat_map run_bytes rs ++ replicate count 0) all ∙ ap (λ (i : ℕ). header ++ flat_map run_bytes runs ++ replicate i 0) zeros

-- ---- reading

-- after the header
behind_header : (runs : List Run) → drop 96 (run_sector runs) ≡ flat_map run_bytes runs ++ replicate (4000 - 8 * length runs) 0
behind_header runs = ap (drop 96) (append_assoc header (flat_map run_bytes runs) (replicate (4000 - 8 * length runs) 0))

pub run_there : (runs : List Run) (k : ℕ) (d : Run) → k < length runs
    → drop (96 + 8 * k) (run_sector runs) ≡ run_bytes (get_or runs k d) ++ (flat_map run_bytes (drop (k + 1) runs) ++ replicate (4000 - 8 * length runs) 0)
run_there runs k d h =
    sym (drop-drop (8 * k) 96 (run_sector runs)) ∙ ap (drop (8 * k)) (behind_header runs) ∙ drop-record run_bytes 8 wide k runs (replicate (4000 - 8 * length runs) 0) d h

-- after the last run there are eight zeros, while room is left
pub no_run_there : (runs : List Run) → length runs < 500
    → drop (96 + 8 * length runs) (run_sector runs) ≡ replicate 8 0 ++ replicate (3992 - 8 * length runs) 0
no_run_there runs h =
    let room : 4000 - 8 * length runs ≡ 8 + (3992 - 8 * length runs) = omega arith in
    sym (drop-drop (8 * length runs) 96 (run_sector runs)) ∙ ap (drop (8 * length runs)) (behind_header runs) ∙ drop-records_all run_bytes 8 wide runs (replicate (4000 - 8 * length runs) 0)
    ∙ ap (λ (n : ℕ). replicate n 0) room ∙ sym (replicate-append-replicate 8 (3992 - 8 * length runs) 0)

-- each run of those is one
pub each_at : (runs : List Run) (k : ℕ) (d : Run) → AllByRecursion IsRun runs → k < length runs → IsRun (get_or runs k d)
each_at [] k d all h = absurd (omega arith)
each_at (run ∷ runs) zero d all h = all.0
each_at (run ∷ runs) (suc k) d all h = each_at runs k d all.1 (omega arith)

each_push : (runs : List Run) (run : Run) → AllByRecursion IsRun runs → IsRun run → AllByRecursion IsRun (runs ++ run ∷ [])
each_push [] run all is = (is, tt)
each_push (r ∷ runs) run all is = (all.0, each_push runs run all.1 is)

-- the first i runs that are in a sector
pub record AreReadTo (sector : List ℕ) (i : ℕ) (runs : List Run) : Type 0 where
  pub len : length runs ≡ i
  pub each : AllByRecursion IsRun runs
  pub only : (others : List Run) → FillSector others → sector ≡ run_sector others → (i ≤ length others) × (runs ≡ take i others)

-- what was read as one run from a place on
pub record IsReadAt (sector : List ℕ) (at : ℕ) (run : Run) : Type 0 where
  pub run_is : (other : Run) (rest : List ℕ) → IsRun other → drop at sector ≡ run_bytes other ++ rest → run ≡ other
  pub none_is : (rest : List ℕ) → drop at sector ≡ replicate 8 0 ++ rest → run.length ≡ 0

module _ (sector : List ℕ) (i at : ℕ) (runs : List Run) (run : Run) (far : AreReadTo sector i runs) (read : IsReadAt sector at run) (place : at ≡ 96 + 8 * i) where
  -- the i-th run of runs that are there
  same_run : (others : List Run) → FillSector others → sector ≡ run_sector others → i < length others → run ≡ get_or others i run
  same_run others fill e h =
      read.run_is (get_or others i run) (flat_map run_bytes (drop (i + 1) others) ++ replicate (4000 - 8 * length others) 0) (each_at others i run fill.each h)
      (ap (λ (n : ℕ). drop n sector) place ∙ ap (drop (96 + 8 * i)) e ∙ run_there others i run h)

  same_none : (others : List Run) → FillSector others → sector ≡ run_sector others → length others ≡ i → i < 500 → run.length ≡ 0
  same_none others fill e h room =
      read.none_is (replicate (3992 - 8 * length others) 0)
      (ap (λ (n : ℕ). drop n sector) place ∙ ap (drop (96 + 8 * i)) e ∙ ap (λ (n : ℕ). drop (96 + 8 * n) (run_sector others)) (sym h) ∙ no_run_there others (omega arith))

  more_only : 0 < run.length → i < 500 → (others : List Run) → FillSector others → sector ≡ run_sector others → (i + 1 ≤ length others) × (runs ++ run ∷ [] ≡ take (i + 1) others)
  more_only some room others fill e =
      let before = far.only others fill e in
      elim (cases_lt i (length others)) [
        | inl lt ↦
            (omega arith, ap (λ (rs : List Run). rs ++ run ∷ []) before.1 ∙ ap (λ (r : Run). take i others ++ r ∷ []) (same_run others fill e lt) ∙ sym (take_more others i run lt))
        | inr le ↦ let none : run.length ≡ 0 = same_none others fill e (omega (arith, before.0)) room in absurd (omega arith)
      ]

  pub AreReadTo-more : IsRun run → i < 500 → AreReadTo sector (i + 1) (runs ++ run ∷ [])
  AreReadTo-more is room = record {
    len = length_push runs run ∙ omega (arith, far.len);
    each = each_push runs run far.each is;
    only = more_only is.some room;
  }

  pub only_until : run.length ≡ 0 → (others : List Run) → FillSector others → sector ≡ run_sector others → runs ≡ others
  only_until none others fill e =
      let before = far.only others fill e in
      elim (cases_lt i (length others)) [
        | inl lt ↦
            let some : 0 < (get_or others i run).length = (each_at others i run fill.each lt).some in
            let same : run.length ≡ (get_or others i run).length = ap (λ (r : Run). r.length) (same_run others fill e lt) in
            absurd (omega arith)
        | inr le ↦ before.1 ∙ take_all i others le
      ]
