-- Bits of pages end to end, and what a change of a page changes.
use Rattle.std.proofs.Common.{◌≡◌, ◌≢◌, ◌<◌, ◌≤◌, ◌+◌, ◌-◌, ◌*◌, ◌/◌, ◌%◌, ◌^◌, min, ℕ, suc, List, [], ◌∷◌, ◌++◌, length, map, take, drop, get_or, set, Result, Ok, Err, OnErr, Global, refl, sym, ap, ap₂, subst, ◌∙◌, arith, inl, inr, length-append}
use Rattle.std.specs.List.{concat}
use Rattle.std.specs.declared.rc.Rc.{Rc}
use Rattle.std.proofs.Math.Seq.{get_or-append_right, take-append-add}
use Rattle.std.proofs.lemmas.List.{get_or_append_left, get_or-set_same, get_or-set_other, get_or-map, length-map, length-set, length-take-le, take-append-drop, append-nil}
use Rattle.std.proofs.lemmas.List.Folds.{concat-append}
use Rattle.std.proofs.lemmas.List.Elements.{All-head, All-tail, All-set, All-get_or}
use Rattle.std.proofs.lemmas.Bool.{cases_lt, cases_eq}
use Rattle.freemap.specs.Places.{bit_of}
use Rattle.freemap.specs.Kept.{AreSectors, IsGroup, IsSectorAt, IsSetBelow, IsFirstClear, BitBecomes}
use Rattle.freemap.specs.declared.page.Page.{Page}
use Rattle.freemap.proofs.KeptLemmas.{stays_set, first_given}

pub on_err : {T E P : Type 0} (r : Result T E) → P → OnErr r P
on_err (Ok x) holds = tt
on_err (Err e) holds = holds

abbrev pub Shared : Type 0
Shared = Rc Page Global

abbrev pub bytes_of : List Shared → List (List ℕ)
bytes_of pages = map (λ page. page.value) pages

abbrev pub IsSector : List ℕ → Type 0
IsSector page = length page ≡ 4096

pub length-pages : (pages : List (List ℕ)) → AreSectors pages → length (concat pages) ≡ 4096 * length pages
length-pages [] all = omega arith
length-pages (page ∷ rest) all =
    omega (arith, length-append page (concat rest), All-head IsSector page rest all, length-pages rest (All-tail IsSector page rest all))

-- a byte of the pages is that of its page
byte_at : (pages : List (List ℕ)) → AreSectors pages → (i : ℕ) → get_or (concat pages) i 0 ≡ get_or (get_or pages (i / 4096) []) (i % 4096) 0
byte_at [] all i = refl
byte_at (page ∷ rest) all i =
    let len : length page ≡ 4096 = All-head IsSector page rest all in
    elim (cases_lt i 4096) [
      | inl lt ↦
          let row : i / 4096 ≡ 0 = omega arith in
          let column : i % 4096 ≡ i = omega arith in
          rw (row, column) (get_or_append_left page (concat rest) 0 i (omega arith))
      | inr le ↦
          let row : i / 4096 ≡ suc ((i - 4096) / 4096) = omega arith in
          let column : i % 4096 ≡ (i - 4096) % 4096 = omega arith in
          rw (row, column) (get_or-append_right page (concat rest) i 0 (omega arith) ∙ ap (λ n. get_or (concat rest) (i - n) 0) len
          ∙ byte_at rest (All-tail IsSector page rest all) (i - 4096))
    ]

-- and so is a bit
pub page_bit : (pages : List (List ℕ)) → AreSectors pages → (i : ℕ) → bit_of (concat pages) i ≡ bit_of (get_or pages (i / 32768) []) (i % 32768)
page_bit pages all i =
    let row : i / 8 / 4096 ≡ i / 32768 = omega arith in
    let byte : (i / 8) % 4096 ≡ i % 32768 / 8 = omega arith in
    let column : i % 8 ≡ i % 32768 % 8 = omega arith in
    let same : get_or (concat pages) (i / 8) 0 ≡ get_or (get_or pages (i / 32768) []) (i % 32768 / 8) 0 =
    byte_at pages all (i / 8) ∙ ap₂ (λ (k n : ℕ). get_or (get_or pages k []) n 0) row byte in
    ap₂ (λ (b c : ℕ). b / 2 ^ (7 - c) % 2) same column

module _ (pages : List (List ℕ)) (all : AreSectors pages) (part : ℕ) where
  pub bit_there : (i : ℕ) → i < 32768 → bit_of (concat pages) (32768 * part + i) ≡ bit_of (get_or pages part []) i
  bit_there i h =
      let row : (32768 * part + i) / 32768 ≡ part = omega arith in
      let column : (32768 * part + i) % 32768 ≡ i = omega arith in
      page_bit pages all (32768 * part + i) ∙ ap₂ (λ (k n : ℕ). bit_of (get_or pages k []) n) row column

  -- if the pages before this one are full, none below its first clear bit is clear
  pub below_first : IsSetBelow (concat pages) (32768 * part) → (first : ℕ) → IsFirstClear (get_or pages part []) 32768 first → IsSetBelow (concat pages) (32768 * part + first)
  below_first below first is i h = elim (cases_lt i (32768 * part)) [
    | inl lt ↦ below i lt
    | inr le ↦
        let place : 32768 * part + (i - 32768 * part) ≡ i = omega arith in
        let small : i - 32768 * part < first = omega arith in
        let there = bit_there (i - 32768 * part) (omega (arith, is.within)) in
        rw place at (there ∙ is.below (i - 32768 * part) small)
  ]

  pub clear_first : (first : ℕ) → IsFirstClear (get_or pages part []) 32768 first → first < 32768 → bit_of (concat pages) (32768 * part + first) ≡ 0
  clear_first first is h = bit_there first h ∙ is.clear h

module _ (pages : List (List ℕ)) (all : AreSectors pages) (new : List ℕ) (len : length new ≡ 4096) (place : ℕ) (within : place / 32768 < length pages) where
  pub sectors_set : AreSectors (set pages (place / 32768) new)
  sectors_set = All-set IsSector pages (place / 32768) new len all

  pub length_set : length (concat (set pages (place / 32768) new)) ≡ length (concat pages)
  length_set = omega (arith, length-pages pages all, length-pages (set pages (place / 32768) new) sectors_set, length-set pages (place / 32768) new)

  other_bit : (bit : ℕ) → BitBecomes (get_or pages (place / 32768) []) new (place % 32768) bit → (i : ℕ) → i ≢ place
      → bit_of (get_or (set pages (place / 32768) new) (i / 32768) []) (i % 32768) ≡ bit_of (get_or pages (i / 32768) []) (i % 32768)
  other_bit bit becomes i apart = elim (cases_eq (i / 32768) (place / 32768)) [
    | inl row ↦
        let column : i % 32768 ≢ place % 32768 = omega arith in
        rw (row, get_or-set_same pages (place / 32768) new [] within) (becomes.others (i % 32768) column)
    | inr row ↦ ap (λ (page : List ℕ). bit_of page (i % 32768)) (get_or-set_other pages (place / 32768) (i / 32768) new [] row)
  ]

  -- a bit that changes in its page is a bit that changes
  pub page_becomes : (bit : ℕ) → BitBecomes (get_or pages (place / 32768) []) new (place % 32768) bit → BitBecomes (concat pages) (concat (set pages (place / 32768) new)) place bit
  page_becomes bit becomes = record {
    here = page_bit (set pages (place / 32768) new) sectors_set place
        ∙ (ap (λ (page : List ℕ). bit_of page (place % 32768)) (get_or-set_same pages (place / 32768) new [] within) ∙ becomes.here);
    others = λ i apart. page_bit (set pages (place / 32768) new) sectors_set i ∙ (other_bit bit becomes i apart ∙ sym (page_bit pages all i));
  }

-- a page among those that are shared
pub page_there : (pages : List Shared) (part : ℕ) (page : Shared) → page ≡ get_or pages part page → part < length pages → page.value ≡ get_or (bytes_of pages) part []
page_there pages part page is h = ap (λ (p : Shared). p.value) is ∙ sym (get_or-map (λ (p : Shared). p.value) pages part page [] h)

-- one more page

pub take_split : (n m : ℕ) (bits : List ℕ) → n ≤ length bits → take (n + m) bits ≡ take n bits ++ take m (drop n bits)
take_split n m bits h =
    ap₂ (λ (k : ℕ) (l : List ℕ). take (k + m) l) (sym (length-take-le n bits h)) (sym (take-append-drop n bits)) ∙ take-append-add (take n bits) (drop n bits) m

pub cut_more : (pages : List (List ℕ)) (bits page : List ℕ) (first : ℕ) → first ≤ length bits → concat pages ≡ take first bits → page ≡ take (first + 4096 - first) (drop first bits)
    → concat (pages ++ page ∷ []) ≡ take (first + 4096) bits
cut_more pages bits page first within made is =
    let whole : first + 4096 - first ≡ 4096 = omega arith in
    concat-append pages (page ∷ []) ∙ (ap₂ (λ (a b : List ℕ). a ++ b) made (append-nil page ∙ (is ∙ ap (λ (n : ℕ). take n (drop first bits)) whole))
    ∙ sym (take_split first 4096 bits within))

-- the first clear bit of all pages, if the pages before this one are full
pub first_of : (pages : List (List ℕ)) → AreSectors pages → (part : ℕ) → part < length pages → IsSetBelow (concat pages) (32768 * part) → (first : ℕ) → IsFirstClear (get_or pages part []) 32768 first → first < 32768
    → IsFirstClear (concat pages) (32768 * length pages) (32768 * part + first)
first_of pages all part h below first is clear = record {
  within = omega arith;
  below = below_first pages all part below first is;
  clear = λ inside. clear_first pages all part first is clear;
}

-- what a group keeps

pub group_len : (pages : List (List ℕ)) → AreSectors pages → 8 * length (concat pages) ≡ 32768 * length pages
group_len pages all = omega (arith, length-pages pages all)

pub group_first : (pages : List Shared) (first : ℕ) → IsGroup (bytes_of pages) first → IsFirstClear (concat (bytes_of pages)) (8 * length (concat (bytes_of pages))) first
group_first pages first group = subst (λ (n : ℕ). IsFirstClear (concat (bytes_of pages)) n first) (sym (group_len (bytes_of pages) group.sectors)) group.first_clear

pub made_group : (pages : List Shared) (first : ℕ) → length pages ≤ 128 → AreSectors (bytes_of pages) → IsFirstClear (concat (bytes_of pages)) (32768 * length pages) first → IsGroup (bytes_of pages) first
made_group pages first few all is = record {
  few = omega (arith, few, length-map pages (λ (p : Shared). p.value));
  sectors = all;
  first_clear = subst (λ (n : ℕ). IsFirstClear (concat (bytes_of pages)) (32768 * n) first) (sym (length-map pages (λ (p : Shared). p.value))) is;
}

pub sector_at : (pages : List (List ℕ)) → AreSectors pages → (part : ℕ) → part < length pages → IsSectorAt (get_or pages part []) (concat pages) (4096 * part)
sector_at pages all part h = record {
  len = All-get_or IsSector pages part [] h all;
  bytes = λ k l.
      let row : (4096 * part + k) / 4096 ≡ part = omega arith in
      let column : (4096 * part + k) % 4096 ≡ k = omega arith in
      sym (byte_at pages all (4096 * part + k) ∙ ap₂ (λ (p n : ℕ). get_or (get_or pages p []) n 0) row column);
}

module _ (pages : List (List ℕ)) (first : ℕ) (group : IsGroup pages first) (new : List ℕ) (len : length new ≡ 4096) (place : ℕ) (within : place / 32768 < length pages) where
  pub still_few : length (set pages (place / 32768) new) ≤ 128
  still_few = omega (arith, group.few, length-set pages (place / 32768) new)

  pub still_set : BitBecomes (get_or pages (place / 32768) []) new (place % 32768) 1 → IsSetBelow (concat (set pages (place / 32768) new)) first
  still_set becomes =
      stays_set (concat pages) (concat (set pages (place / 32768) new)) place first (page_becomes pages group.sectors new len place within 1 becomes) group.first_clear.below

  pub group_given : BitBecomes (get_or pages (place / 32768) []) new (place % 32768) 0 → IsGroup (set pages (place / 32768) new) (min first place)
  group_given becomes =
      let bit = page_becomes pages group.sectors new len place within 0 becomes in
      record {
        few = still_few;
        sectors = sectors_set pages group.sectors new len place within;
        first_clear = subst (λ (n : ℕ). IsFirstClear (concat (set pages (place / 32768) new)) (32768 * n) (min first place)) (sym (length-set pages (place / 32768) new))
            (first_given (concat pages) (concat (set pages (place / 32768) new)) place first (32768 * length pages) bit group.first_clear);
      }
