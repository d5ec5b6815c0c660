-- Bits of groups end to end, and what a change of a group changes.
use Rattle.std.proofs.Common.{◌≡◌, ◌≢◌, ◌<◌, ◌≤◌, ◌+◌, ◌-◌, ◌*◌, ◌/◌, ◌%◌, ◌^◌, min, ℕ, zero, suc, Bool, List, [], ◌∷◌, ◌++◌, length, map, take, drop, get_or, set, Global, refl, sym, ap, ap₂, subst, ◌∙◌, arith, inl, inr, length-append}
use Rattle.std.specs.List.{concat}
use Rattle.std.specs.declared.rc.Rc.{Rc}
use Rattle.std.proofs.Math.Seq.{get_or-append_right}
use Rattle.std.proofs.lemmas.List.{get_or_past, get_or_append_left, get_or-set_same, get_or-set_other, get_or-map, length-set, length-take, length-drop, take_min, append-nil}
use Rattle.std.proofs.lemmas.List.Folds.{concat-append}
use Rattle.std.proofs.lemmas.Bool.{cases_lt, cases_eq}
use Rattle.freemap.specs.Places.{bit_of, is_one, places_in, ShowsPlaces}
use Rattle.freemap.specs.Kept.{AreGroups, IsSectorAt, IsShared, IsSetBelow, IsFirstClear, BitBecomes, parts}
use Rattle.freemap.specs.declared.group.Group.{Group}
use Rattle.freemap.proofs.Bits.{Shows-part}
use Rattle.freemap.proofs.PartLaws.{part-within}
use Rattle.freemap.proofs.PageLaws.{take_split}
use Rattle.freemap.proofs.KeptLemmas.{IsKept-take, IsKept-give, below-more, places_in-set}

abbrev pub SharedGroup : Type 0
SharedGroup = Rc Group Global

abbrev pub bytes_in : List SharedGroup → List (List ℕ)
bytes_in groups = map (λ group. group.value) groups

-- each group is full, as long as there are bytes
abbrev Each : List (List ℕ) → (total : ℕ) → Type 0
Each groups total = (k : ℕ) → length (get_or groups k []) ≡ min 524288 (total - 524288 * k)

each_rest : (group : List ℕ) (rest : List (List ℕ)) (total : ℕ) → Each (group ∷ rest) total → Each rest (total - 524288)
each_rest group rest total each k = omega (arith, each (suc k))

byte_in : (groups : List (List ℕ)) (total : ℕ) → Each groups total → (i : ℕ) → i < total → get_or (concat groups) i 0 ≡ get_or (get_or groups (i / 524288) []) (i % 524288) 0
byte_in [] total each i h = refl
byte_in (group ∷ rest) total each i h =
    let len : length group ≡ min 524288 (total - 524288 * 0) = each 0 in
    elim (cases_lt i 524288) [
      | inl lt ↦
          let row : i / 524288 ≡ 0 = omega arith in
          let column : i % 524288 ≡ i = omega arith in
          rw (row, column) (get_or_append_left group (concat rest) 0 i (omega arith))
      | inr le ↦
          let row : i / 524288 ≡ suc ((i - 524288) / 524288) = omega arith in
          let column : i % 524288 ≡ (i - 524288) % 524288 = omega arith in
          let full : length group ≡ 524288 = omega arith in
          rw (row, column) (get_or-append_right group (concat rest) i 0 (omega arith) ∙ ap (λ n. get_or (concat rest) (i - n) 0) full
          ∙ byte_in rest (total - 524288) (each_rest group rest total each) (i - 524288) (omega arith))
    ]

-- a byte of the groups is that of its group
byte_of : (groups : List (List ℕ)) → AreGroups groups → (i : ℕ) → get_or (concat groups) i 0 ≡ get_or (get_or groups (i / 524288) []) (i % 524288) 0
byte_of groups all i = elim (cases_lt i (length (concat groups))) [
  | inl lt ↦ byte_in groups (length (concat groups)) all.each i lt
  | inr le ↦
      let past : length (get_or groups (i / 524288) []) ≤ i % 524288 = omega (arith, all.each (i / 524288)) in
      get_or_past (concat groups) i 0 le ∙ sym (get_or_past (get_or groups (i / 524288) []) (i % 524288) 0 past)
]

-- and so is a bit
group_bit : (groups : List (List ℕ)) → AreGroups groups → (i : ℕ) → bit_of (concat groups) i ≡ bit_of (get_or groups (i / 4194304) []) (i % 4194304)
group_bit groups all i =
    let row : i / 8 / 524288 ≡ i / 4194304 = omega arith in
    let byte : (i / 8) % 524288 ≡ i % 4194304 / 8 = omega arith in
    let column : i % 8 ≡ i % 4194304 % 8 = omega arith in
    let same : get_or (concat groups) (i / 8) 0 ≡ get_or (get_or groups (i / 4194304) []) (i % 4194304 / 8) 0 =
    byte_of groups all (i / 8) ∙ ap₂ (λ (k n : ℕ). get_or (get_or groups k []) n 0) row byte in
    ap₂ (λ (b c : ℕ). b / 2 ^ (7 - c) % 2) same column

module _ (groups : List (List ℕ)) (all : AreGroups groups) (part : ℕ) where
  pub bit_in_group : (i : ℕ) → i < 4194304 → bit_of (concat groups) (4194304 * part + i) ≡ bit_of (get_or groups part []) i
  bit_in_group i h =
      let row : (4194304 * part + i) / 4194304 ≡ part = omega arith in
      let column : (4194304 * part + i) % 4194304 ≡ i = omega arith in
      group_bit groups all (4194304 * part + i) ∙ ap₂ (λ (k n : ℕ). bit_of (get_or groups k []) n) row column

  module _ (first : ℕ) (is : IsFirstClear (get_or groups part []) (8 * length (get_or groups part [])) first) where
    -- if the groups before this one are full, none below its first clear bit is clear
    pub below_group : IsSetBelow (concat groups) (4194304 * part) → IsSetBelow (concat groups) (4194304 * part + first)
    below_group below i h = elim (cases_lt i (4194304 * part)) [
      | inl lt ↦ below i lt
      | inr le ↦
          let place : 4194304 * part + (i - 4194304 * part) ≡ i = omega arith in
          let small : i - 4194304 * part < first = omega arith in
          let there = bit_in_group (i - 4194304 * part) (omega (arith, is.within, all.each part)) in
          rw place at (there ∙ is.below (i - 4194304 * part) small)
    ]

    pub clear_group : first < 4194304 → 4194304 * part + first < 8 * length (concat groups) → bit_of (concat groups) (4194304 * part + first) ≡ 0
    clear_group h within = bit_in_group first h ∙ is.clear (omega (arith, all.each part))

  -- a byte of a group is one of all
  pub byte_there : (k : ℕ) → k < 524288 → get_or (get_or groups part []) k 0 ≡ get_or (concat groups) (524288 * part + k) 0
  byte_there k h =
      let row : (524288 * part + k) / 524288 ≡ part = omega arith in
      let column : (524288 * part + k) % 524288 ≡ k = omega arith in
      sym (byte_of groups all (524288 * part + k) ∙ ap₂ (λ (p n : ℕ). get_or (get_or groups p []) n 0) row column)

-- where a page is
module _ (groups : List (List ℕ)) (all : AreGroups groups) (page : ℕ) (within : 4096 * page < length (concat groups)) where
  pub page_group : page / 128 < length groups
  page_group = omega (arith, all.many)

  pub page_in_group : 4096 * (page % 128) < length (get_or groups (page / 128) [])
  page_in_group = omega (arith, all.each (page / 128))

-- a sector of a group is one of all
pub sector_in_group : (groups : List (List ℕ)) → AreGroups groups → (page : ℕ) (sector : List ℕ) → IsSectorAt sector (get_or groups (page / 128) []) (4096 * (page % 128)) → IsSectorAt sector (concat groups) (4096 * page)
sector_in_group groups all page sector is = record {
  len = is.len;
  bytes = λ k h.
      let place : 524288 * (page / 128) + (4096 * (page % 128) + k) ≡ 4096 * page + k = omega arith in
      is.bytes k h ∙ byte_there groups all (page / 128) (4096 * (page % 128) + k) (omega arith) ∙ ap (λ (n : ℕ). get_or (concat groups) n 0) place;
}

-- a group of the same length in the place of one

length_set_group : (groups : List (List ℕ)) (k : ℕ) (new : List ℕ) → length new ≡ length (get_or groups k []) → length (concat (set groups k new)) ≡ length (concat groups)
length_set_group [] k new h = refl
length_set_group (group ∷ rest) zero new h = omega (arith, length-append new (concat rest), length-append group (concat rest), h)
length_set_group (group ∷ rest) (suc k) new h =
    omega (arith, length-append group (concat (set rest k new)), length-append group (concat rest), length_set_group rest k new h)

module _ (groups : List (List ℕ)) (all : AreGroups groups) (new : List ℕ) (place : ℕ) (len : length new ≡ length (get_or groups (place / 4194304) [])) (within : place / 4194304 < length groups) where
  pub same_length : length (concat (set groups (place / 4194304) new)) ≡ length (concat groups)
  same_length = length_set_group groups (place / 4194304) new len

  same_len : (k : ℕ) → length (get_or (set groups (place / 4194304) new) k []) ≡ length (get_or groups k [])
  same_len k = elim (cases_eq k (place / 4194304)) [
    | inl row ↦ rw (row, get_or-set_same groups (place / 4194304) new [] within) len
    | inr row ↦ ap length (get_or-set_other groups (place / 4194304) k new [] row)
  ]

  pub groups_set : AreGroups (set groups (place / 4194304) new)
  groups_set = record {
    many = omega (arith, length-set groups (place / 4194304) new, same_length, all.many);
    each = λ k. omega (arith, same_len k, all.each k, same_length);
  }

  other_bit : (bit : ℕ) → BitBecomes (get_or groups (place / 4194304) []) new (place % 4194304) bit → (i : ℕ) → i ≢ place
      → bit_of (get_or (set groups (place / 4194304) new) (i / 4194304) []) (i % 4194304) ≡ bit_of (get_or groups (i / 4194304) []) (i % 4194304)
  other_bit bit becomes i apart = elim (cases_eq (i / 4194304) (place / 4194304)) [
    | inl row ↦
        let column : i % 4194304 ≢ place % 4194304 = omega arith in
        rw (row, get_or-set_same groups (place / 4194304) new [] within) (becomes.others (i % 4194304) column)
    | inr row ↦ ap (λ (group : List ℕ). bit_of group (i % 4194304)) (get_or-set_other groups (place / 4194304) (i / 4194304) new [] row)
  ]

  -- a bit that changes in its group is a bit that changes
  pub group_becomes : (bit : ℕ) → BitBecomes (get_or groups (place / 4194304) []) new (place % 4194304) bit → BitBecomes (concat groups) (concat (set groups (place / 4194304) new)) place bit
  group_becomes bit becomes = record {
    here = group_bit (set groups (place / 4194304) new) groups_set place
        ∙ (ap (λ (group : List ℕ). bit_of group (place % 4194304)) (get_or-set_same groups (place / 4194304) new [] within) ∙ becomes.here);
    others = λ i apart. group_bit (set groups (place / 4194304) new) groups_set i ∙ (other_bit bit becomes i apart ∙ sym (group_bit groups all i));
  }

-- a group among those that are shared
pub group_there : (groups : List SharedGroup) (part : ℕ) (group : SharedGroup) → group ≡ get_or groups part group → part < length groups → group.value ≡ get_or (bytes_in groups) part []
group_there groups part group is h = ap (λ (g : SharedGroup). g.value) is ∙ sym (get_or-map (λ (g : SharedGroup). g.value) groups part group [] h)

-- one more group

module _ (groups : List (List ℕ)) (all : AreGroups groups) (bits group : List ℕ) (part n : ℕ) (made : concat groups ≡ take (524288 * part) bits) (within : 524288 * part < length bits)
    (is : group ≡ take n (drop (524288 * part) bits)) (rest : n ≡ min 524288 (length bits - 524288 * part)) where
  made_len : length (concat groups) ≡ 524288 * part
  made_len = omega (arith, ap length made, length-take (524288 * part) bits)

  group_len : length group ≡ n
  group_len = omega (arith, ap length is, length-take n (drop (524288 * part) bits), length-drop (524288 * part) bits)

  pub more_bytes : concat (groups ++ group ∷ []) ≡ take (524288 * (part + 1)) bits
  more_bytes =
      let end : 524288 * part + n ≡ min (524288 * (part + 1)) (length bits) = omega arith in
      concat-append groups (group ∷ []) ∙ (ap₂ (λ (a b : List ℕ). a ++ b) made (append-nil group ∙ is) ∙ (sym (take_split (524288 * part) n bits (omega arith))
      ∙ (ap (λ (m : ℕ). take m bits) end ∙ take_min (524288 * (part + 1)) bits)))

  more_len : length (concat (groups ++ group ∷ [])) ≡ min (524288 * (part + 1)) (length bits)
  more_len = ap length more_bytes ∙ length-take (524288 * (part + 1)) bits

  many_before : length groups ≡ part
  many_before = omega (arith, all.many, made_len)

  each_len : (k : ℕ) → length (get_or (groups ++ group ∷ []) k []) ≡ min 524288 (length (concat (groups ++ group ∷ [])) - 524288 * k)
  each_len k = elim (cases_lt k part) [
    | inl lt ↦ omega (arith, ap length (get_or_append_left groups (group ∷ []) [] k (omega (arith, many_before))), all.each k, made_len, more_len)
    | inr le ↦ elim (cases_eq k part) [
      | inl e ↦
          let first : k - length groups ≡ 0 = omega (arith, many_before) in
          let here : get_or (groups ++ group ∷ []) k [] ≡ group =
          get_or-append_right groups (group ∷ []) k [] (omega (arith, many_before)) ∙ ap (λ (m : ℕ). get_or (group ∷ []) m []) first in
          omega (arith, ap length here, group_len, more_len)
      | inr apart ↦
          let past : length (groups ++ group ∷ []) ≤ k = omega (arith, length-append groups (group ∷ []), many_before) in
          omega (arith, ap length (get_or_past (groups ++ group ∷ []) k [] past), more_len)
    ]
  ]

  pub more_groups : AreGroups (groups ++ group ∷ [])
  more_groups = record { many = omega (arith, length-append groups (group ∷ []), many_before, more_len); each = each_len }

-- what a shared bitmap keeps

module _ (groups : List (List ℕ)) (count lowest : ℕ) (kept : IsShared groups count lowest) where
  pub groups_few : length groups ≤ 1024
  groups_few = omega (arith, kept.full.many, kept.kept.len, kept.kept.fits)

  pub place_in : (place : ℕ) → place < count → place / 4194304 < length groups
  place_in place h = omega (arith, kept.full.many, kept.kept.len)

  pub place_there : (place : ℕ) → place < count → place % 4194304 < 8 * length (get_or groups (place / 4194304) [])
  place_there place h = omega (arith, kept.full.each (place / 4194304), kept.kept.len)

  pub places_within : (place : ℕ) → place < count → place < 8 * length (concat groups)
  places_within place h = omega (arith, kept.kept.len)

  pub part_in : (part : ℕ) (places : List Bool) → places_in (concat groups) count ≡ places → part < parts (length places) → 4096 * part < length (concat groups)
  part_in part places shown h = omega (arith, part-within (concat groups) count lowest part places kept.kept shown h)

  pub page_shown : (part : ℕ) (places : List Bool) (sector : List ℕ) → places_in (concat groups) count ≡ places → IsSectorAt sector (concat groups) (4096 * part) → ShowsPlaces sector places (32768 * part)
  page_shown part places sector shown is =
      let place : 8 * (4096 * part) ≡ 32768 * part = omega arith in
      let shows = Shows-part (concat groups) sector count (4096 * part) kept.kept.past is.len is.bytes in
      subst (λ (n : ℕ). ShowsPlaces sector places n) place (subst (λ (l : List Bool). ShowsPlaces sector l (8 * (4096 * part))) shown shows)

  module _ (place : ℕ) (within : place < count) (new : List ℕ) (len : length new ≡ length (get_or groups (place / 4194304) [])) where
    new_len : length (concat (set groups (place / 4194304) new)) ≡ 4096 * parts count
    new_len = same_length groups kept.full new place len (place_in place within) ∙ kept.kept.len

    pub changed : (bit : ℕ) → BitBecomes (get_or groups (place / 4194304) []) new (place % 4194304) bit
        → places_in (concat (set groups (place / 4194304) new)) count ≡ set (places_in (concat groups) count) place (is_one bit)
    changed bit becomes =
        places_in-set (concat groups) (concat (set groups (place / 4194304) new)) count place bit (group_becomes groups kept.full new place len (place_in place within) bit becomes) within

    pub kept_taken : BitBecomes (get_or groups (place / 4194304) []) new (place % 4194304) 1 → IsSetBelow (concat groups) place → IsShared (set groups (place / 4194304) new) count (place + 1)
    kept_taken becomes below =
        let bit = group_becomes groups kept.full new place len (place_in place within) 1 becomes in
        record {
          full = groups_set groups kept.full new place len (place_in place within);
          kept = IsKept-take (concat groups) (concat (set groups (place / 4194304) new)) count place lowest kept.kept new_len within bit (place + 1) (omega arith)
              (below-more (concat groups) (concat (set groups (place / 4194304) new)) place bit below);
        }

    pub kept_given : BitBecomes (get_or groups (place / 4194304) []) new (place % 4194304) 0 → IsShared (set groups (place / 4194304) new) count (min lowest place)
    kept_given becomes = record {
      full = groups_set groups kept.full new place len (place_in place within);
      kept = IsKept-give (concat groups) (concat (set groups (place / 4194304) new)) count place lowest kept.kept new_len within
          (group_becomes groups kept.full new place len (place_in place within) 0 becomes);
    }
