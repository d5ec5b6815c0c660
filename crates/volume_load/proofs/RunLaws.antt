-- Runs in their sectors.
use Rattle.std.proofs.Common.{◌≡◌, ◌≤◌, ◌<◌, ◌+◌, ◌-◌, ◌*◌, ℕ, zero, suc, min, List, [], ◌∷◌, ◌++◌, length, get_or, take, drop, replicate, sym, ap, ◌∙◌, arith, inl, inr}
use Rattle.std.specs.Int.{w16, from_be_bytes}
use Rattle.std.specs.List.{flat_map, AllByRecursion}
use Rattle.std.proofs.lemmas.Bool.{cases_lt}
use Rattle.std.proofs.lemmas.List.{length-append, length-take, length-drop, take_all, take-append-le, drop-append-le, drop_at}
use Rattle.disk.specs.Moments.{Image}
use Rattle.std.proofs.lemmas.Nat.{from_be_bytes-to_be_bytes_2}
use Rattle.extents.specs.declared.run.Run.{Run}
use Rattle.extents.specs.Sector.{run_bytes, run_sector, IsRun, FillSector}
use Rattle.extents.proofs.SectorLemmas.{run_there, no_run_there, each_at}
use Rattle.layout.specs.Laid.{runs_of_sector}
use Rattle.volume_load.specs.Runs.{FindsPart, FindsRuns}

-- after the runs of one the other has none
no_more : (a b : List Run) → FillSector a → FillSector b → run_sector a ≡ run_sector b → length a < length b → ⊥
no_more a b fill other same less =
    let k = length a in
    let none : Run = record { block = 0; length = 0; sector = 0 } in
    let there = run_there b k none less in
    let zeros = no_run_there a (omega (arith, other.few)) in
    let bytes : run_bytes (get_or b k none) ++ (flat_map run_bytes (drop (k + 1) b) ++ replicate (4000 - 8 * length b) 0) ≡ replicate 8 0 ++ replicate (3992 - 8 * k) 0 =
    sym there ∙ ap (drop (96 + 8 * k)) (sym same) ∙ zeros in
    let is = each_at b k none other.each less in
    let empty : (get_or b k none).length ≡ 0 = sym (from_be_bytes-to_be_bytes_2 (get_or b k none).length is.length) ∙ ap (λ (l : List ℕ). from_be_bytes w16 (drop 2 l)) bytes in
    absurd (omega (arith, is.some))

pub same_count : (a b : List Run) → FillSector a → FillSector b → run_sector a ≡ run_sector b → length a ≡ length b
same_count a b fill other same = elim (cases_lt (length a) (length b)) [
  | inl less ↦ absurd (no_more a b fill other same less)
  | inr le ↦ elim (cases_lt (length b) (length a)) [
    | inl more ↦ absurd (no_more b a other fill (sym same) more)
    | inr ge ↦ omega arith
  ]
]

pub fills : (content : List ℕ) (count : ℕ) (runs : List Run) → FindsPart (Unit {0}) content count runs → 0 < count → count ≤ 500 → FillSector runs
fills content count runs found some few = record { some = omega (arith, found.count_is); few = omega (arith, found.count_is); each = found.each }

-- The first sectors

-- the runs of the first `i` sectors, all of which are full, except perhaps the last
pub record AreReadTo (word : Type 0) (image : Image) (sectors : List ℕ) (count : ℕ) (i : ℕ) (runs : List Run) : Type 0 where
  pub each : AllByRecursion IsRun runs
  pub long : length runs ≡ min (500 * i) count
  pub encoded : word → (k : ℕ) → k < i → image (get_or sectors k 0) ≡ run_sector (runs_of_sector k runs)

pub all-append : {A : Type 0} (P : A → Type 0) (xs ys : List A) → AllByRecursion P xs → AllByRecursion P ys → AllByRecursion P (xs ++ ys)
all-append P [] ys all more = more
all-append P (x ∷ xs) ys all more = (all.0, all-append P xs ys all.1 more)

pub all-take : {A : Type 0} (P : A → Type 0) (n : ℕ) (xs : List A) → AllByRecursion P xs → AllByRecursion P (take n xs)
all-take P zero xs all = tt
all-take P (suc n) [] all = tt
all-take P (suc n) (x ∷ xs) all = (all.0, all-take P n xs all.1)

pub all-drop : {A : Type 0} (P : A → Type 0) (n : ℕ) (xs : List A) → AllByRecursion P xs → AllByRecursion P (drop n xs)
all-drop P zero xs all = all
all-drop P (suc n) [] all = tt
all-drop P (suc n) (x ∷ xs) all = all-drop P n xs all.1

module _ (word : Type 0) (image : Image) (sectors : List ℕ) (count : ℕ) (i : ℕ) (runs part : List Run) (far : AreReadTo word image sectors count i runs) (within : 500 * i < count) where
  -- the sectors before are full, so they remain what they are
  prefix_same : (k : ℕ) → k < i → runs_of_sector k (runs ++ part) ≡ runs_of_sector k runs
  prefix_same k h = ap (take 500) (drop-append-le (500 * k) runs part (omega (arith, far.long))) ∙ take-append-le 500 (drop (500 * k) runs) part (omega (arith, length-drop (500 * k) runs, far.long))

  last_is : length part ≤ 500 → runs_of_sector i (runs ++ part) ≡ part
  last_is few = ap (take 500) (drop_at runs part (500 * i) (omega (arith, far.long))) ∙ take_all 500 part few

  pub read_more : (w : ℕ) → w ≡ min (count - length runs) 500 → FindsPart word (image (get_or sectors i 0)) w part → AreReadTo word image sectors count (i + 1) (runs ++ part)
  read_more w is found = record {
    each = all-append IsRun runs part far.each found.each;
    long = omega (arith, length-append runs part, far.long, found.count_is);
    encoded = λ u k h. elim (cases_lt k i) [
      | inl low ↦ far.encoded u k low ∙ ap run_sector (sym (prefix_same k low))
      | inr high ↦
          let e : k ≡ i = omega arith in
          ap (λ (n : ℕ). image (get_or sectors n 0)) e ∙ found.encoded u ∙ ap run_sector (sym (last_is (omega (arith, found.count_is)))) ∙ ap (λ (n : ℕ). run_sector (runs_of_sector n (runs ++ part))) (sym e)
    ];
  }

-- runs that are found in all sectors have a part in each
pub part_of : (word : Type 0) (image : Image) (sectors : List ℕ) (count : ℕ) (i w : ℕ) (runs : List Run) → FindsRuns word image sectors count runs → i < length sectors → w ≡ min (count - 500 * i) 500
    → FindsPart word (image (get_or sectors i 0)) w (runs_of_sector i runs)
part_of word image sectors count i w runs found h is = record {
  each = all-take IsRun 500 (drop (500 * i) runs) (all-drop IsRun (500 * i) runs found.each);
  count_is = omega (arith, length-take 500 (drop (500 * i) runs), length-drop (500 * i) runs, found.count_is);
  encoded = λ u. found.encoded u i h;
}
