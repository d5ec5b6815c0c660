-- An index of a list of sectors: what a search finds, and what one sector more does to it.
use Rattle.std.proofs.Common.{◌≡◌, ◌==◌, ◌≢◌, ◌≤◌, ◌<◌, ◌+◌, ◌-◌, ◌++◌, ◌∷◌, [], ℕ, List, false, length, get_or, set, drop, Result, Ok, Err, Option, Some, None, IfOk, IfErr, eq-eqb, refl, sym, ap, subst, ◌∙◌, arith, ⊎_elim}
use Rattle.std.specs.List.{insert}
use Rattle.std.specs.List.Sorted.{IsSearchInRange, IsBinarySearchResult, IsNonDecreasingBy}
use Rattle.std.specs.Ordering.{nat_cmp, ordering_index}
use Rattle.std.proofs.lemmas.Bool.{cases_eq, cases_lt}
use Rattle.std.proofs.lemmas.Cmp.{ranked}
use Rattle.std.proofs.lemmas.List.Folds.{list_any_at}
use Rattle.std.specs.Option.{is_some, IfSome, IfNone}
use Rattle.std.proofs.lemmas.List.{length-append, length-set, get_or-set_same, get_or-set_other, get_or_append_left, get_or-append_right, drop_all, drop-append-le}
use Rattle.std.proofs.lemmas.List.Sorted.{IsNonDecreasingBy-from_default}
use Rattle.std.proofs.lemmas.List.Edits.{length-insert, get_or-insert_below, get_or-insert_at, get_or-insert_above}
use Rattle.std.proofs.lemmas.Bool.Decides.{nat_tests}
use Rattle.journal.specs.Index.{IsEntryOf, IsGapFor, IsIndexOf, IsRising, place_at, sector_at}
use Rattle.journal.specs.Transactions.{has, IsLastPlace}
use Rattle.journal.proofs.Lists.{has-push}

abbrev Entries : Type 0
Entries = List (ℕ × ℕ)

module _ (entries : Entries) (rising : IsRising entries) (n : ℕ) where
  comparisons_rise : IsNonDecreasingBy (λ entry. ordering_index (nat_cmp entry.0 n)) entries
  comparisons_rise = IsNonDecreasingBy-from_default (λ entry. ordering_index (nat_cmp entry.0 n)) entries (0, 0) (λ i j le within.
      let keys_rise : sector_at entries i ≤ sector_at entries j = grind (arith, rising i j, λ (same : i ≡ j). ap (sector_at entries) same) in
      grind (arith, nat_tests))

  -- a binary search ends at the sector's entry, or where it would go
  pub searched : (r : Result ℕ ℕ) → IsSearchInRange r (length entries) → IsBinarySearchResult (λ entry. nat_cmp entry.0 n) entries r
      → record { found : IfOk r (IsEntryOf entries n); absent : IfErr r (IsGapFor entries n) }
  searched (Ok i) within equal = record { found = record { within = within; is = ranked _ n _ (sym (equal (0, 0))) }; absent = tt }
  searched (Err i) within parted = record {
    found = tt;
    absent = record {
      within = within;
      below = λ j l. ranked _ n _ (sym ((parted comparisons_rise).0 j (0, 0) (omega arith) l));
      above = λ j le l. ranked _ n _ (sym ((parted comparisons_rise).1 j (0, 0) le l));
    };
  }

-- what the index of a list finds
pub found_last : (entries : Entries) (sectors : List ℕ) (n i : ℕ) → IsIndexOf entries sectors → IsEntryOf entries n i → IsLastPlace sectors n (place_at entries i)
found_last entries sectors n i is entry = subst (λ (m : ℕ). IsLastPlace sectors m (place_at entries i)) entry.is (is.last i entry.within)

pub gap_none : (entries : Entries) (n i : ℕ) → IsGapFor entries n i → (j : ℕ) → j < length entries → sector_at entries j ≢ n
gap_none entries n i gap j within same = ⊎_elim
    (λ (l : j < i). omega (arith, gap.below j l, same))
    (λ (l : i ≤ j). omega (arith, gap.above j l within, same))
    (cases_lt j i)

pub missing : (entries : Entries) (sectors : List ℕ) (n i : ℕ) → IsIndexOf entries sectors → IsGapFor entries n i → has sectors n ≡ false
missing entries sectors n i is gap = is.all n (gap_none entries n i gap)

-- a sector is found exactly if the list has it
pub has_found : (found : Option ℕ) (sectors : List ℕ) (n : ℕ) → IfSome found (λ place. IsLastPlace sectors n place) → IfNone found (has sectors n ≡ false) → is_some found ≡ has sectors n
has_found (Some place) sectors n last none =
    sym (list_any_at (λ other. other == n) sectors place 0 last.there (eq-eqb (get_or sectors place 0) n last.is))
has_found None sectors n last none = sym none

-- an empty list
index_none : IsIndexOf [] []
index_none = record { few = omega arith; rising = λ i j l within. absurd (omega arith); last = λ i within. absurd (omega arith); all = λ n none. refl }

pub index_empty : (entries : Entries) (sectors : List ℕ) → entries ≡ [] → sectors ≡ [] → IsIndexOf entries sectors
index_empty entries sectors e q =
    let P : Entries → Type 0 = λ xs. IsIndexOf xs sectors in
    subst P (sym e) (subst (IsIndexOf []) (sym q) index_none)

-- one sector more behind a list: it is the last of its number, and the others stay where they are
last_new : (sectors : List ℕ) (n : ℕ) → IsLastPlace (sectors ++ n ∷ []) n (length sectors)
last_new sectors n = record {
  there = omega (arith, length-append sectors (n ∷ []));
  is = get_or-append_right sectors (n ∷ []) (length sectors) (length sectors) 0 refl (omega arith) ∙ ap (λ (k : ℕ). get_or (n ∷ []) k 0) (let q : length sectors - length sectors ≡ 0 = omega arith in q);
  last = ap (λ (xs : List ℕ). has xs n) (drop_all (length sectors + 1) (sectors ++ n ∷ []) (omega (arith, length-append sectors (n ∷ []))));
}

last_kept : (sectors : List ℕ) (n m place : ℕ) → IsLastPlace sectors m place → n ≢ m → IsLastPlace (sectors ++ n ∷ []) m place
last_kept sectors n m place last other = record {
  there = omega (arith, last.there, length-append sectors (n ∷ []));
  is = get_or_append_left sectors (n ∷ []) 0 place last.there ∙ last.is;
  last = ap (λ (xs : List ℕ). has xs m) (drop-append-le (place + 1) sectors (n ∷ []) (omega (arith, last.there))) ∙ has-push (drop (place + 1) sectors) n m other ∙ last.last;
}

module _ (entries : Entries) (sectors : List ℕ) (n i : ℕ) (is : IsIndexOf entries sectors) where
  abbrev IsLast : ℕ × ℕ → Type 0
  IsLast entry = IsLastPlace (sectors ++ n ∷ []) entry.0 entry.1

  -- in the place of its entry
  pub put_over : IsEntryOf entries n i → IsIndexOf (set entries i (n, length sectors)) (sectors ++ n ∷ [])
  put_over entry =
      let new = set entries i (n, length sectors) in
      let here : get_or new i (0, 0) ≡ (n, length sectors) = get_or-set_same entries i (n, length sectors) (0, 0) entry.within in
      let other : (j : ℕ) → j ≢ i → get_or new j (0, 0) ≡ get_or entries j (0, 0) = λ j ne. get_or-set_other entries i j (n, length sectors) (0, 0) ne in
      let same : (j : ℕ) → sector_at new j ≡ sector_at entries j = λ j. ⊎_elim
      (λ (q : j ≡ i). ap (sector_at new) q ∙ ap (λ (e : ℕ × ℕ). e.0) here ∙ sym entry.is ∙ ap (sector_at entries) (sym q))
      (λ (q : j ≡ i → ⊥). ap (λ (e : ℕ × ℕ). e.0) (other j q))
      (cases_eq j i) in
      let wide : length new ≡ length entries = length-set entries i (n, length sectors) in
      let apart : (j : ℕ) → j < length entries → j ≢ i → n ≢ sector_at entries j = λ j l ne e. ⊎_elim
      (λ (q : j < i). omega (arith, is.rising j i q entry.within, e, entry.is))
      (λ (q : i ≤ j). omega (arith, is.rising i j (omega (arith, q, ne)) l, e, entry.is))
      (cases_lt j i) in
      record {
        few = omega (arith, is.few, wide, length-append sectors (n ∷ []));
        rising = λ j k l within. omega (arith, same j, same k, is.rising j k l (omega (arith, within, wide)));
        last = λ j within. ⊎_elim
            (λ (q : j ≡ i). subst IsLast (sym (ap (λ (k : ℕ). get_or new k (0, 0)) q ∙ here)) (last_new sectors n))
            (λ (q : j ≡ i → ⊥).
            let old : j < length entries = omega (arith, within, wide) in
            subst IsLast (sym (other j q)) (last_kept sectors n (sector_at entries j) (place_at entries j) (is.last j old) (apart j old q)))
            (cases_eq j i);
        all = λ m none.
            has-push sectors n m (λ e. none i (omega (arith, entry.within, wide)) (ap (λ (e : ℕ × ℕ). e.0) here ∙ e))
            ∙ is.all m (λ j within e. none j (omega (arith, within, wide)) (same j ∙ e));
      }

  -- between the entries of lower sectors and those of higher ones
  pub put_between : IsGapFor entries n i → IsIndexOf (insert entries i (n, length sectors)) (sectors ++ n ∷ [])
  put_between gap =
      let new = insert entries i (n, length sectors) in
      let wide : length new ≡ length entries + 1 = length-insert entries i (n, length sectors) gap.within in
      let below : (j : ℕ) → j < i → get_or new j (0, 0) ≡ get_or entries j (0, 0) = λ j l. get_or-insert_below entries i (n, length sectors) (0, 0) j l gap.within in
      let here : get_or new i (0, 0) ≡ (n, length sectors) = get_or-insert_at entries i (n, length sectors) (0, 0) gap.within in
      let above : (j : ℕ) → i ≤ j → get_or new (j + 1) (0, 0) ≡ get_or entries j (0, 0) = λ j l. get_or-insert_above entries i (n, length sectors) (0, 0) j l gap.within in
      let past : (j : ℕ) → i < j → get_or new j (0, 0) ≡ get_or entries (j - 1) (0, 0) = λ j l.
      subst (λ (q : ℕ). get_or new q (0, 0) ≡ get_or entries (j - 1) (0, 0)) {x = j - 1 + 1} (omega arith) (above (j - 1) (omega arith)) in
      let sector = λ (e : ℕ × ℕ). e.0 in
      let key_below : (j : ℕ) → j < i → sector_at new j ≡ sector_at entries j = λ j l. ap sector (below j l) in
      let key_here : (j : ℕ) → j ≡ i → sector_at new j ≡ n = λ j q. ap (sector_at new) q ∙ ap sector here in
      let key_past : (j : ℕ) → i < j → sector_at new j ≡ sector_at entries (j - 1) = λ j l. ap sector (past j l) in
      let apart = gap_none entries n i gap in
      record {
        few = omega (arith, is.few, wide, length-append sectors (n ∷ []));
        rising = λ j k l within. grind (arith, wide, key_below j, key_here j, key_past j, key_below k, key_here k, key_past k, is.rising j k, is.rising j (k - 1), is.rising (j - 1) (k - 1), gap.below j, gap.above (k - 1));
        last = λ j within. ⊎_elim
            (λ (l : j < i).
            let old : j < length entries = omega (arith, l, gap.within) in
            subst IsLast (sym (below j l)) (last_kept sectors n (sector_at entries j) (place_at entries j) (is.last j old) (λ e. apart j old (sym e))))
            (λ (l : i ≤ j). ⊎_elim
            (λ (q : j ≡ i). subst IsLast (sym (ap (λ (k : ℕ). get_or new k (0, 0)) q ∙ here)) (last_new sectors n))
            (λ (q : j ≡ i → ⊥).
            let high : i < j = omega (arith, l, q) in
            let old : j - 1 < length entries = omega (arith, within, wide, high) in
            subst IsLast (sym (past j high)) (last_kept sectors n (sector_at entries (j - 1)) (place_at entries (j - 1)) (is.last (j - 1) old) (λ e. apart (j - 1) old (sym e))))
            (cases_eq j i))
            (cases_lt j i);
        all = λ m none.
            has-push sectors n m (λ e. none i (omega (arith, gap.within, wide)) (ap sector here ∙ e))
            ∙ is.all m (λ j within e. ⊎_elim
            (λ (l : j < i). none j (omega (arith, within, wide)) (key_below j l ∙ e))
            (λ (l : i ≤ j). none (j + 1) (omega (arith, within, wide)) (ap sector (above j l) ∙ e))
            (cases_lt j i));
      }
