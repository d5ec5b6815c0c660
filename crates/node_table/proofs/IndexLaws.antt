-- Numbers and their places, by rising number.
use Rattle.std.proofs.Common.{◌≡◌, ◌≢◌, ◌≤◌, ◌<◌, ℕ, zero, suc, [], ◌∷◌, ◌++◌, Some, None, length, get_or, Result, Ok, Err, IfOk, IfErr, inl, inr, refl, sym, ap, ◌∙◌, arith, eq-eqb, ne_eqb, le-ltb}
use Rattle.std.specs.Prelude.{IfSome, IfNone}
use Rattle.std.specs.Result.{result_ok}
use Rattle.std.specs.List.{remove}
use Rattle.std.specs.List.Sorted.{IsSearchInRange, IsBinarySearchResult, IsNonDecreasingBy}
use Rattle.std.specs.Ordering.{nat_cmp, ordering_index}
use Rattle.std.proofs.lemmas.Cmp.{ranked}
use Rattle.std.proofs.lemmas.List.Sorted.{IsNonDecreasingBy-from_default}
use Rattle.std.proofs.lemmas.Bool.{cases_lt}
use Rattle.std.proofs.lemmas.Bool.Decides.{nat_tests}
use Rattle.model_tree.specs.Trees.Keyed.{Keyed, at, with, without, IsAbove}
use Rattle.model_tree.proofs.Trees.KeyedLaws.{at-first, at-rest, at-above}
use Rattle.node_table.specs.Index.{key_at, IsAt}

-- keys rise with their places

keys-above : (least : ℕ) (index : Keyed ℕ) → IsAbove least index → (i : ℕ) → i < length index → least < key_at index i
keys-above least [] above i h = absurd (omega arith)
keys-above least (entry ∷ rest) above zero h = above.0
keys-above least (entry ∷ rest) above (suc i) h = let low = keys-above entry.0 rest above.1 i (omega arith) in let first = above.0 in omega arith

keys-rise : (least : ℕ) (index : Keyed ℕ) → IsAbove least index → (i j : ℕ) → i < j → j < length index → key_at index i < key_at index j
keys-rise least [] above i j low h = absurd (omega arith)
keys-rise least (entry ∷ rest) above i zero low h = absurd (omega arith)
keys-rise least (entry ∷ rest) above zero (suc j) low h = keys-above entry.0 rest above.1 j (omega arith)
keys-rise least (entry ∷ rest) above (suc i) (suc j) low h = keys-rise entry.0 rest above.1 i j (omega arith) (omega arith)

-- what is at the key of an entry, and at one that no entry has

pub at-entry : (least : ℕ) (index : Keyed ℕ) → IsAbove least index → (i : ℕ) (d : ℕ × ℕ) → i < length index → at (get_or index i d).0 index ≡ Some (get_or index i d).1
at-entry least [] above i d h = absurd (omega arith)
at-entry least (entry ∷ rest) above zero d h = at-first entry.0 entry.0 entry.1 rest refl
at-entry least (entry ∷ rest) above (suc i) d h =
    let there = at-entry entry.0 rest above.1 i d (omega arith) in
    let low : entry.0 < (get_or rest i d).0 = at-above rest entry.0 (get_or rest i d).0 (get_or rest i d).1 above.1 there in
    at-rest entry.0 (get_or rest i d).0 entry.1 rest (omega arith) ∙ there

at-none : (index : Keyed ℕ) (key : ℕ) → ((i : ℕ) → i < length index → key_at index i ≢ key) → at key index ≡ None
at-none [] key off = refl
at-none (entry ∷ rest) key off = at-rest entry.0 key entry.1 rest (λ e. off 0 (omega arith) (sym e)) ∙ at-none rest key (λ i h. off (suc i) (omega arith))

-- a search ends at the number, or if no entry has it

module _ (index : Keyed ℕ) (above : IsAbove 0 index) (number : ℕ) where
  comparisons_rise : IsNonDecreasingBy (λ entry. ordering_index (nat_cmp entry.0 number)) index
  comparisons_rise = IsNonDecreasingBy-from_default (λ entry. ordering_index (nat_cmp entry.0 number)) index (0, 0) (λ i j le h.
      let rise : key_at index i ≤ key_at index j = grind (arith, keys-rise 0 index above i j, λ (same : i ≡ j). ap (key_at index) same) in
      grind (arith, nat_tests))

  pub searched : (r : Result ℕ ℕ) → IsSearchInRange r (length index) → IsBinarySearchResult (λ entry. nat_cmp entry.0 number) index r
      → record { found : IfOk r (IsAt index number); absent : IfErr r (λ i. at number index ≡ None) }
  searched (Ok i) within equal = record { found = record { within = within; is = ranked _ number _ (sym (equal (0, 0))) }; absent = tt }
  searched (Err i) within parted = record {
    found = tt;
    absent = at-none index number (λ j h e. elim (cases_lt j i) [
      | inl low ↦ absurd (let before = ranked _ number _ (sym ((parted comparisons_rise).0 j (0, 0) (omega arith) low)) in omega arith)
      | inr high ↦ absurd (let behind = ranked _ number _ (sym ((parted comparisons_rise).1 j (0, 0) high h)) in omega arith)
    ]);
  }

-- a key above all others comes after the last

pub with-last : (entries : Keyed ℕ) (least key value : ℕ) → IsAbove least entries → ((k v : ℕ) → at k entries ≡ Some v → k < key) → with entries key value ≡ entries ++ (key, value) ∷ []
with-last [] least key value above below = refl
with-last (entry ∷ rest) least key value above below =
    let first : entry.0 < key = below entry.0 entry.1 (at-first entry.0 entry.0 entry.1 rest refl) in
    let apart : key ≢ entry.0 = omega arith in
    let behind : entry.0 ≤ key = omega arith in
    let others : with rest key value ≡ rest ++ (key, value) ∷ [] = with-last rest entry.0 key value above.1 (λ k v is.
    let high : entry.0 < k = at-above rest entry.0 k v above.1 is in below k v (at-rest entry.0 k entry.1 rest (omega arith) ∙ is)) in
    rw (ne_eqb key entry.0 apart, le-ltb key entry.0 behind) (ap (λ (e : Keyed ℕ). entry ∷ e) others)

-- an entry is removed

without-below : (entries : Keyed ℕ) (least key : ℕ) → IsAbove least entries → key ≤ least → without entries key ≡ entries
without-below [] least key above low = refl
without-below (entry ∷ rest) least key above low =
    let first = above.0 in
    let apart : key ≢ entry.0 = omega arith in
    rw (ne_eqb key entry.0 apart) (ap (λ (e : Keyed ℕ). entry ∷ e) (without-below rest entry.0 key above.1 (omega arith)))

pub without-entry : (entries : Keyed ℕ) (least i : ℕ) → IsAbove least entries → i < length entries → without entries (key_at entries i) ≡ remove entries i
without-entry [] least i above h = absurd (omega arith)
without-entry (entry ∷ rest) least zero above h = rw (eq-eqb entry.0 entry.0 refl) (without-below rest entry.0 entry.0 above.1 (omega arith))
without-entry (entry ∷ rest) least (suc i) above h =
    let high = keys-above entry.0 rest above.1 i (omega arith) in
    let apart : key_at rest i ≢ entry.0 = omega arith in
    rw (ne_eqb (key_at rest i) entry.0 apart) (ap (λ (e : Keyed ℕ). entry ∷ e) (without-entry rest entry.0 i above.1 (omega arith)))

-- a result as an option

pub some_of : (r : Result ℕ ℕ) (P : ℕ → Type 0) → IfOk r P → IfSome (result_ok r) P
some_of (Ok i) P is = is
some_of (Err i) P is = tt

pub none_of : (r : Result ℕ ℕ) (P : Type 0) → IfErr r (λ i. P) → IfNone (result_ok r) P
none_of (Ok i) P is = tt
none_of (Err i) P is = is
