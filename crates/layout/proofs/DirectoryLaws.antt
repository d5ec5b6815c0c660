-- A directory's names in their blocks.
use Rattle.std.proofs.Common.{◌≡◌, ◌≢◌, ◌≤◌, ◌<◌, ◌+◌, ◌-◌, ◌*◌, ℕ, zero, suc, List, [], ◌∷◌, ◌++◌, Option, None, length, get_or, set, drop, min, replicate, refl, sym, ap, ◌∙◌, arith, inl, inr}
use Rattle.std.specs.List.{AllByRecursion, flat_map}
use Rattle.std.proofs.lemmas.List.{length-replicate}
use Rattle.sector.specs.Records.{length-records}
use Rattle.directory.specs.Encoding.{record_bytes}
use Rattle.directory.proofs.Sector.{records_wide}
use Rattle.std.proofs.lemmas.Bool.{cases_eq, cases_lt}
use Rattle.std.proofs.lemmas.List.{length-append, length-take, length-drop, length-set, get_or_append_left, get_or_at, get_or-take, get_or-drop, get_or-set_same, get_or-set_other, get_or_default, ext_get_or}
use Rattle.directory.specs.Records.{Record, record_from, without_place, place_of, name_of, NamesStamped}
use Rattle.directory.specs.Encoding.{directory_sector}
use Rattle.directory.proofs.Places.{with_record-set, with_record-push, place_of-le}
use Rattle.layout.specs.CachedNodes.{content_at}
use Rattle.layout.specs.Directories.{block_of, PutsInOne, RemovesInTwo, Rewriting, NoHoles, StaysStamped, PutsStamped}
use Rattle.layout.specs.Laid.{names_of_block}

abbrev none : Record
none = record_from 0 [] 0

length-block : (i : ℕ) (xs : List Record) → length (names_of_block i xs) ≡ min 15 (length xs - 15 * i)
length-block i xs = length-take 15 (drop (15 * i) xs) ∙ ap (min 15) (length-drop (15 * i) xs)

in-block : (i j : ℕ) (xs : List Record) → j < 15 → get_or (names_of_block i xs) j none ≡ get_or xs (15 * i + j) none
in-block i j xs h = get_or-take 15 (drop (15 * i) xs) j none h ∙ get_or-drop (15 * i) xs j none

-- blocks with the same number of names, each name the same
same_block : (i : ℕ) (xs ys : List Record) → min 15 (length xs - 15 * i) ≡ min 15 (length ys - 15 * i) → ((k : ℕ) → 15 * i ≤ k → k < 15 * i + 15 → k < length xs → get_or xs k none ≡ get_or ys k none)
    → names_of_block i xs ≡ names_of_block i ys
same_block i xs ys many same =
    ext_get_or none (names_of_block i xs) (names_of_block i ys) (length-block i xs ∙ many ∙ sym (length-block i ys))
    (λ j h.
    let few : j < min 15 (length xs - 15 * i) = omega (arith, length-block i xs) in
    in-block i j xs (omega arith) ∙ same (15 * i + j) (omega arith) (omega arith) (omega arith) ∙ sym (in-block i j ys (omega arith)))

set_in_one : (names : List Record) (place : ℕ) (new : Record) (i : ℕ) → i ≢ block_of place → names_of_block i (set names place new) ≡ names_of_block i names
set_in_one names place new i apart =
    same_block i (set names place new) names (ap (λ (n : ℕ). min 15 (n - 15 * i)) (length-set names place new))
    (λ k low high h. get_or-set_other names place k new none (omega arith))

push_in_one : (names : List Record) (new : Record) (i : ℕ) → i ≢ block_of (length names) → names_of_block i (names ++ new ∷ []) ≡ names_of_block i names
push_in_one names new i apart =
    let long : length (names ++ new ∷ []) ≡ length names + 1 = length-append names (new ∷ []) in
    same_block i (names ++ new ∷ []) names (omega arith)
    (λ k low high h. get_or_append_left names (new ∷ []) none k (omega arith))

pub puts_in_one : PutsInOne
puts_in_one names new i apart again = elim (cases_lt (place_of (name_of new) names) (length names)) [
  | inl within ↦ ap (names_of_block i) (with_record-set names new within) ∙ set_in_one names (place_of (name_of new) names) new i apart
  | inr past ↦
      let behind : place_of (name_of new) names ≡ length names = omega (arith, place_of-le (name_of new) names) in
      ap (names_of_block i) (with_record-push names new past) ∙ push_in_one names new i (λ e. apart (e ∙ ap block_of (sym behind)))
]

length-without : (names : List Record) (place : ℕ) → length (without_place names place) ≡ length names - 1
length-without names place =
    let moved = set names place (get_or names (length names - 1) none) in
    omega (arith, length-take (length names - 1) moved, length-set names place (get_or names (length names - 1) none))

at-without : (names : List Record) (place k : ℕ) (d : Record) → k ≢ place → k < length names - 1 → get_or (without_place names place) k d ≡ get_or names k d
at-without names place k d apart h =
    let last = get_or names (length names - 1) none in
    get_or-take (length names - 1) (set names place last) k d h ∙ get_or-set_other names place k last d apart

at-moved : (names : List Record) (place : ℕ) (d : Record) → place < length names - 1 → get_or (without_place names place) place d ≡ get_or names (length names - 1) d
at-moved names place d h =
    let last = get_or names (length names - 1) none in
    get_or-take (length names - 1) (set names place last) place d h ∙ get_or-set_same names place last d (omega arith) ∙ get_or_default names (length names - 1) none d (omega arith)

pub removes_in_two : RemovesInTwo
removes_in_two names place within i apart far =
    same_block i (without_place names place) names (omega (arith, length-without names place))
    (λ k low high h. at-without names place k none (omega arith) (omega (arith, length-without names place)))

pub rewriting : Rewriting
rewriting old new was is before after one other encoded changes rewrites i h = elim (cases_eq i one) [
  | inl e ↦ ap (λ (k : ℕ). content_at new (get_or is k None)) e ∙ rewrites.one_is (omega arith) ∙ ap (λ (k : ℕ). directory_sector (names_of_block k after)) (sym e)
  | inr apart ↦ elim (cases_eq i other) [
    | inl e ↦ ap (λ (k : ℕ). content_at new (get_or is k None)) e ∙ rewrites.other_is (omega arith) ∙ ap (λ (k : ℕ). directory_sector (names_of_block k after)) (sym e)
    | inr far ↦
        let same = rewrites.kept i apart far h in
        same.1 ∙ encoded i same.0 ∙ ap directory_sector (sym (changes i apart far))
  ]
]

length-sector : (names : List Record) → length names ≤ 15 → length (directory_sector names) ≡ 4096
unfolding directory_sector
length-sector names few =
    omega (arith, length-append (flat_map record_bytes names) (replicate (4096 - 272 * length names) 0), length-records record_bytes 272 records_wide names, length-replicate {A = ℕ} (4096 - 272 * length names) 0)

pub no_holes : NoHoles
no_holes image blocks names encoded i h hole =
    let some : length (content_at image (get_or blocks i None)) ≡ 4096 = ap length (encoded i h) ∙ length-sector (names_of_block i names) (omega (arith, length-block i names)) in
    let none : length (content_at image (get_or blocks i None)) ≡ 0 = ap (λ (b : Option ℕ). length (content_at image b)) hole in
    omega arith

-- ---- stamps

above_at : (xs : List Record) → ((k : ℕ) → k < length xs → 0 < (get_or xs k none).0) → AllByRecursion (λ (entry : Record). 0 < entry.0) xs
above_at [] each = tt
above_at (x ∷ xs) each = (each 0 (omega arith), above_at xs (λ k h. each (suc k) (omega arith)))

at_above : (xs : List Record) (k : ℕ) → AllByRecursion (λ (entry : Record). 0 < entry.0) xs → k < length xs → 0 < (get_or xs k none).0
at_above [] k all h = absurd (omega arith)
at_above (x ∷ xs) zero all h = all.0
at_above (x ∷ xs) (suc k) all h = at_above xs k all.1 (omega arith)

-- the place at which a record of the rest was before
record From (names : List Record) (place k : ℕ) : Type 0 where
  pub stood : ℕ
  pub within : stood < length names
  pub is : (d : Record) → get_or (without_place names place) k d ≡ get_or names stood d
  pub other : stood ≢ place
  pub which : (k ≢ place → stood ≡ k) × (k ≡ place → stood ≡ length names - 1)

from : (names : List Record) (place k : ℕ) → place < length names → k < length names - 1 → From names place k
from names place k within h = elim (cases_eq k place) [
  | inl e ↦ record {
    stood = length names - 1;
    within = omega arith;
    is = λ d. ap (λ (i : ℕ). get_or (without_place names place) i d) e ∙ at-moved names place d (omega arith);
    other = omega arith;
    which = (λ off. absurd (off e), λ on. refl);
  }
  | inr off ↦ record {
    stood = k;
    within = omega arith;
    is = λ d. at-without names place k d off h;
    other = off;
    which = (λ apart. refl, λ e. absurd (off e));
  }
]

apart_any : (names : List Record) → NamesStamped names → (i j : ℕ) (d : Record) → i ≢ j → i < length names → j < length names → (get_or names i d).0 ≢ (get_or names j d).0
apart_any names stamped i j d off hi hj = elim (cases_lt i j) [
  | inl low ↦ stamped.apart i j d low hj
  | inr high ↦ λ same. stamped.apart j i d (omega arith) hi (sym same)
]

stood_apart : (names : List Record) (place i j : ℕ) → (a : From names place i) → (b : From names place j) → i < length names - 1 → j < length names - 1 → i ≢ j → a.stood ≢ b.stood
stood_apart names place i j a b hi hj off = elim (cases_eq i place) [
  | inl e ↦ let b_is = b.which.0 (λ f. off (e ∙ sym f)) in let a_is = a.which.1 e in omega arith
  | inr far ↦ let a_is = a.which.0 far in elim (cases_eq j place) [
    | inl f ↦ let b_is = b.which.1 f in omega arith
    | inr away ↦ let b_is = b.which.0 away in omega arith
  ]
]

pub stays_stamped : StaysStamped
stays_stamped names place within stamped =
    let long = length-without names place in
    record {
      above = above_at (without_place names place) (λ k h. let it = from names place k within (omega arith) in rw (it.is none) (at_above names it.stood stamped.above it.within));
      apart = λ i j d low h same.
          let a = from names place i within (omega arith) in
          let b = from names place j within (omega arith) in
          apart_any names stamped a.stood b.stood d (stood_apart names place i j a b (omega arith) (omega arith) (omega arith)) a.within b.within
          (ap (λ (r : Record). r.0) (sym (a.is d)) ∙ same ∙ ap (λ (r : Record). r.0) (b.is d));
    }

pub puts_stamped : PutsStamped
puts_stamped names new stamped some fresh =
    let long : length (names ++ new ∷ []) ≡ length names + 1 = length-append names (new ∷ []) in
    record {
      above = above_at (names ++ new ∷ []) (λ k h. elim (cases_lt k (length names)) [
        | inl low ↦ rw (get_or_append_left names (new ∷ []) none k low) (at_above names k stamped.above low)
        | inr high ↦ rw (get_or_at names new [] none k (omega arith)) some
      ]);
      apart = λ i j d low h same. elim (cases_lt j (length names)) [
        | inl prefix ↦ stamped.apart i j d low prefix (ap (λ (r : Record). r.0) (sym (get_or_append_left names (new ∷ []) d i (omega arith))) ∙ same ∙ ap (λ (r : Record). r.0) (get_or_append_left names (new ∷ []) d j prefix))
        | inr back ↦ fresh i d (omega arith) (ap (λ (r : Record). r.0) (sym (get_or_append_left names (new ∷ []) d i (omega arith))) ∙ same ∙ ap (λ (r : Record). r.0) (get_or_at names new [] d j (omega arith)))
      ];
    }
