-- Names in their blocks.
use Rattle.std.proofs.Common.{◌≡◌, ◌≤◌, ◌<◌, ◌+◌, ◌-◌, ◌*◌, ◌/◌, ℕ, min, List, [], ◌++◌, Option, Some, None, length, get_or, take, drop, replicate, sym, ap, ap₂, ◌∙◌, arith, inl, inr}
use Rattle.std.specs.List.{flat_map, AllByRecursion}
use Rattle.std.proofs.lemmas.Bool.{cases_lt}
use Rattle.std.proofs.lemmas.List.{length-append, length-take, length-drop, length-replicate, take_all, take-append-le, drop-append-le, drop_at, ext_get_or, get_or-take, get_or-drop}
use Rattle.disk.specs.Moments.{Image}
use Rattle.directory.specs.Records.{Record, IsRecord, record_from}
use Rattle.directory.specs.Encoding.{record_bytes, directory_sector}
use Rattle.directory.specs.Reading.{records_in}
use Rattle.directory.proofs.ReadBack.{records-back}
use Rattle.layout.specs.CachedNodes.{content_at}
use Rattle.layout.specs.Laid.{names_of_block}
use Rattle.volume_load.specs.Names.{FindsPart, FindsRecords, FindsNames}
use Rattle.volume_load.proofs.RunLaws.{all-append, all-take, all-drop}

-- the names of the first `i` blocks, all of which are full, except perhaps the last
pub record AreReadTo (word : Type 0) (image : Image) (blocks : List (Option ℕ)) (count : ℕ) (i : ℕ) (names : List Record) : Type 0 where
  pub each : AllByRecursion IsRecord names
  pub long : length names ≡ min (15 * i) count
  pub encoded : word → (k : ℕ) → k < i → content_at image (get_or blocks k None) ≡ directory_sector (names_of_block k names)

module _ (word : Type 0) (image : Image) (blocks : List (Option ℕ)) (count : ℕ) (i : ℕ) (names part : List Record) (far : AreReadTo word image blocks count i names) (within : 15 * i < count) where
  prefix_same : (k : ℕ) → k < i → names_of_block k (names ++ part) ≡ names_of_block k names
  prefix_same k h = ap (take 15) (drop-append-le (15 * k) names part (omega (arith, far.long))) ∙ take-append-le 15 (drop (15 * k) names) part (omega (arith, length-drop (15 * k) names, far.long))

  last_is : length part ≤ 15 → names_of_block i (names ++ part) ≡ part
  last_is few = ap (take 15) (drop_at names part (15 * i) (omega (arith, far.long))) ∙ take_all 15 part few

  pub read_more : (w sector : ℕ) → w ≡ min (count - length names) 15 → get_or blocks i None ≡ Some sector → FindsPart word (image sector) w part → AreReadTo word image blocks count (i + 1) (names ++ part)
  read_more w sector is there found = record {
    each = all-append IsRecord names part far.each found.each;
    long = omega (arith, length-append names part, far.long, found.count_is);
    encoded = λ u k h. elim (cases_lt k i) [
      | inl low ↦ far.encoded u k low ∙ ap directory_sector (sym (prefix_same k low))
      | inr high ↦
          let e : k ≡ i = omega arith in
          ap (λ (n : ℕ). content_at image (get_or blocks n None)) e ∙ ap (content_at image) there ∙ found.encoded u ∙ ap directory_sector (sym (last_is (omega (arith, found.count_is))))
          ∙ ap (λ (n : ℕ). directory_sector (names_of_block n (names ++ part))) (sym e)
    ];
  }

-- a hole is no block of names
not_empty : (names : List Record) → length names ≤ 15 → [] ≡ directory_sector names → ⊥
unfolding directory_sector
not_empty names few is =
    let zeros : List ℕ = replicate (4096 - 272 * length names) 0 in
    let long : 0 ≡ length (flat_map record_bytes names ++ zeros) = ap length is in
    let all = length-append (flat_map record_bytes names) zeros in
    let counted : length zeros ≡ 4096 - 272 * length names = length-replicate (4096 - 272 * length names) 0 in
    absurd (omega arith)

pub no_hole : (word : Type 0) (image : Image) (blocks : List (Option ℕ)) (count i : ℕ) (names : List Record) → word → FindsRecords word image blocks count names → i < length blocks → get_or blocks i None ≡ None → ⊥
no_hole word image blocks count i names w found h none =
    not_empty (names_of_block i names) (omega (arith, length-take 15 (drop (15 * i) names))) (ap (content_at image) (sym none) ∙ found.encoded w i h)

-- At most one list of names is found

no_name : Record
no_name = record_from 0 [] 0

pub same_at : {A : Type 0} (d : A) (xs ys : List A) (from wide k : ℕ) → from ≤ k → k < from + wide → take wide (drop from xs) ≡ take wide (drop from ys) → get_or xs k d ≡ get_or ys k d
same_at d xs ys from wide k low high same = sym (at d xs from wide k low high) ∙ ap (λ l. get_or l (k - from) d) same ∙ at d ys from wide k low high
  where
    at : {A : Type 0} (d : A) (zs : List A) (from wide k : ℕ) → from ≤ k → k < from + wide → get_or (take wide (drop from zs)) (k - from) d ≡ get_or zs k d
    at d zs from wide k low high =
        let e : from + (k - from) ≡ k = omega arith in
        get_or-take wide (drop from zs) (k - from) d (omega arith) ∙ get_or-drop from zs (k - from) d ∙ ap (λ (n : ℕ). get_or zs n d) e

pub one_names : (word : Type 0) (image : Image) (blocks : List (Option ℕ)) (count : ℕ) (a b : List Record) → word → FindsRecords word image blocks count a → FindsRecords word image blocks count b → length blocks ≡ (count + 14) / 15 → a ≡ b
one_names word image blocks count a b w first second enough = ext_get_or no_name a b (first.count_is ∙ sym second.count_is) (λ k h. same_at no_name a b (15 * (k / 15)) 15 k (omega arith) (omega arith) (part (k / 15) (omega (arith, first.count_is))))
  where
    of : (i : ℕ) (names : List Record) → FindsRecords word image blocks count names → length (names_of_block i names) ≡ min 15 (count - 15 * i)
    of i names found = omega (arith, length-take 15 (drop (15 * i) names), length-drop (15 * i) names, found.count_is)

    back : (i : ℕ) (names : List Record) → FindsRecords word image blocks count names → i < length blocks → records_in (min 15 (count - 15 * i)) (content_at image (get_or blocks i None)) ≡ names_of_block i names
    back i names found h = ap₂ records_in (sym (of i names found)) (found.encoded w i h) ∙ records-back (names_of_block i names) (all-take IsRecord 15 (drop (15 * i) names) (all-drop IsRecord (15 * i) names found.each))

    part : (i : ℕ) → i < length blocks → names_of_block i a ≡ names_of_block i b
    part i h = sym (back i a first h) ∙ back i b second h

pub as_records : (word : Type 0) (image : Image) (blocks : List (Option ℕ)) (size : ℕ) (names : List Record) → FindsNames word image size blocks names → FindsRecords word image blocks size names
as_records word image blocks size names found = record { each = found.directory.each; count_is = found.count; encoded = found.encoded }
