-- A table of cached nodes that are already there.
use Rattle.std.proofs.Common.{true, false, true≢false, ◌≡◌, ◌≢◌, ◌≤◌, ◌<◌, ◌+◌, ◌-◌, ℕ, zero, suc, List, [], ◌∷◌, ◌++◌, Option, Some, None, length, take, get_or, inl, inr, refl, sym, ap, ◌∙◌, subst, arith, eqb}
use Rattle.std.specs.Prelude.{is_some}
use Rattle.std.specs.List.{Contains, sum_by}
use Rattle.std.specs.List.Sorted.{IsPermutation, IsNonDecreasingBy}
use Rattle.std.proofs.lemmas.Bool.{cases_eq}
use Rattle.std.proofs.lemmas.List.{get_or_default, take_more, length-take-le}
use Rattle.std.proofs.lemmas.List.Elements.{Contains-get_or}
use Rattle.std.proofs.lemmas.List.Sorted.{IsPermutation-sym, length_permutation, Contains-permutation, sum_by-IsPermutation}
use Rattle.std.proofs.lemmas.List.Sums.{sum_by-cons}
use Rattle.std.proofs.lemmas.Option.{same_Some}
use Rattle.model_tree.specs.Trees.Keyed.{Keyed, at, IsAbove}
use Rattle.model_tree.proofs.Trees.KeyedLaws.{at-first, at-rest}
use Rattle.model_tree.proofs.Facts.OptionLaws.{some≢none}
use Rattle.layout.specs.CachedNodes.{CachedNode}
use Rattle.layout.specs.Marks.{once_if, times}
use Rattle.layout.specs.SumLaws.{sum_over}
use Rattle.layout.proofs.NumberLaws.{once-off, once-at}
use Rattle.node_table.specs.declared.table.TheConstants.Table.{MAX_NODES}
use Rattle.node_table.specs.Index.{key_at, entries_from, AreDifferent}
use Rattle.node_table.specs.Tables.{node_number_at, HaveOwnPlaces, AreNumbered, AreFew, charge_of_all, count_of_all, vacant, IsIndexed}
use Rattle.node_table.proofs.IndexLaws.{at-entry}
use Rattle.node_table.proofs.TableLaws.{times-push}

-- ---- one more cached node

abbrev pub entry_from : (place : ℕ) → Option CachedNode → Keyed ℕ
entry_from place None = []
entry_from place (Some cached) = (cached.fields.number, place) ∷ []

pub entries-push : (first : ℕ) (cached_nodes : List (Option CachedNode)) (cached : Option CachedNode) → entries_from first (cached_nodes ++ cached ∷ []) ≡ entries_from first cached_nodes ++ entry_from (first + length cached_nodes) cached
entries-push first [] None = refl
entries-push first [] (Some cached) = let e : first ≡ first + 0 = omega arith in ap (λ (place : ℕ). (cached.fields.number, place) ∷ []) e
entries-push first (None ∷ cached_nodes) cached =
    let e : first + 1 + length cached_nodes ≡ first + suc (length cached_nodes) = omega arith in
    entries-push (first + 1) cached_nodes cached ∙ ap (λ (place : ℕ). entries_from (first + 1) cached_nodes ++ entry_from place cached) e
entries-push first (Some one ∷ cached_nodes) cached =
    let e : first + 1 + length cached_nodes ≡ first + suc (length cached_nodes) = omega arith in
    ap (λ (l : Keyed ℕ). (one.fields.number, first) ∷ l) (entries-push (first + 1) cached_nodes cached ∙ ap (λ (place : ℕ). entries_from (first + 1) cached_nodes ++ entry_from place cached) e)

abbrev pub worth_of : (CachedNode → ℕ) → Option CachedNode → ℕ
worth_of worth None = 0
worth_of worth (Some cached) = worth cached

pub sum-push : (worth : CachedNode → ℕ) (cached_nodes : List (Option CachedNode)) (cached : Option CachedNode) → sum_over worth (cached_nodes ++ cached ∷ []) ≡ sum_over worth cached_nodes + worth_of worth cached
sum-push worth [] None = refl
sum-push worth [] (Some cached) = omega arith
sum-push worth (None ∷ cached_nodes) cached = sum-push worth cached_nodes cached
sum-push worth (Some one ∷ cached_nodes) cached = omega (arith, sum-push worth cached_nodes cached)

once-suc : (n m : ℕ) → once_if (eqb n m) ≡ once_if (eqb (suc n) (suc m))
once-suc n m = elim (cases_eq n m) [
  | inl e ↦ once-at n m e ∙ sym (once-at (suc n) (suc m) (ap (λ (k : ℕ). suc k) e))
  | inr off ↦ once-off n m off ∙ sym (once-off (suc n) (suc m) (λ e. off (omega arith)))
]

pub vacant-push_none : (n : ℕ) (cached_nodes : List (Option CachedNode)) → vacant n (cached_nodes ++ None ∷ []) ≡ vacant n cached_nodes + once_if (eqb n (length cached_nodes))
vacant-push_none zero [] = refl
vacant-push_none (suc n) [] = omega (arith, once-off (suc n) 0 (λ e. omega arith))
vacant-push_none zero (cached ∷ cached_nodes) = omega (arith, once-off 0 (suc (length cached_nodes)) (λ e. omega arith))
vacant-push_none (suc n) (cached ∷ cached_nodes) = vacant-push_none n cached_nodes ∙ ap (λ (k : ℕ). vacant n cached_nodes + k) (once-suc n (length cached_nodes))

pub vacant-push_some : (n : ℕ) (cached_nodes : List (Option CachedNode)) (one : CachedNode) → vacant n (cached_nodes ++ Some one ∷ []) ≡ vacant n cached_nodes
vacant-push_some zero [] one = refl
vacant-push_some (suc n) [] one = refl
vacant-push_some zero (cached ∷ cached_nodes) one = refl
vacant-push_some (suc n) (cached ∷ cached_nodes) one = vacant-push_some n cached_nodes one

-- ---- one more place

module _ (cached_nodes : List (Option CachedNode)) (place : ℕ) (there : Option CachedNode) (within : place < length cached_nodes) (is : there ≡ get_or cached_nodes place there) where
  took : take (place + 1) cached_nodes ≡ take place cached_nodes ++ there ∷ []
  took = take_more cached_nodes place there within ∙ ap (λ (cached : Option CachedNode). take place cached_nodes ++ cached ∷ []) (sym is)

  long : length (take place cached_nodes) ≡ place
  long = length-take-le place cached_nodes (omega arith)

  pub entries-step : (items : Keyed ℕ) → items ≡ entries_from 0 (take place cached_nodes) → items ++ entry_from place there ≡ entries_from 0 (take (place + 1) cached_nodes)
  entries-step items so_far =
      let e : place ≡ 0 + length (take place cached_nodes) = omega (arith, long) in
      ap (λ (l : Keyed ℕ). l ++ entry_from place there) so_far ∙ ap (λ (p : ℕ). entries_from 0 (take place cached_nodes) ++ entry_from p there) e
      ∙ sym (entries-push 0 (take place cached_nodes) there) ∙ ap (entries_from 0) (sym took)

  pub sum-step : (worth : CachedNode → ℕ) → sum_over worth (take (place + 1) cached_nodes) ≡ sum_over worth (take place cached_nodes) + worth_of worth there
  sum-step worth = ap (sum_over worth) took ∙ sum-push worth (take place cached_nodes) there

  pub free-step_none : (n : ℕ) (items : List ℕ) → there ≡ None → times n items ≡ vacant n (take place cached_nodes) → times n (items ++ place ∷ []) ≡ vacant n (take (place + 1) cached_nodes)
  free-step_none n items none so_far =
      let end = ap (vacant n) took ∙ ap (λ (cached : Option CachedNode). vacant n (take place cached_nodes ++ cached ∷ [])) none ∙ vacant-push_none n (take place cached_nodes) in
      omega (arith, times-push n items place, so_far, end, ap (λ (k : ℕ). once_if (eqb n k)) long)

  pub free-step_some : (n : ℕ) (one : CachedNode) → there ≡ Some one → vacant n (take (place + 1) cached_nodes) ≡ vacant n (take place cached_nodes)
  free-step_some n one some = ap (vacant n) took ∙ ap (λ (cached : Option CachedNode). vacant n (take place cached_nodes ++ cached ∷ [])) some ∙ vacant-push_some n (take place cached_nodes) one

pub none-from : (there : Option CachedNode) → is_some there ≡ false → there ≡ None
none-from None is = refl
none-from (Some cached) is = absurd (true≢false is)

pub some-from : (there : Option CachedNode) → is_some there ≡ true → record { one : CachedNode; is : there ≡ Some one }
some-from None is = absurd (true≢false (sym is))
some-from (Some cached) is = record { one = cached; is = refl }

-- ---- the entries

told-later : (first : ℕ) (cached : Option CachedNode) (cached_nodes : List (Option CachedNode)) (entry : ℕ × ℕ) → (first + 1 ≤ entry.1) × (node_number_at cached_nodes (entry.1 - (first + 1)) ≡ Some entry.0)
    → (first ≤ entry.1) × (node_number_at (cached ∷ cached_nodes) (entry.1 - first) ≡ Some entry.0)
told-later first cached cached_nodes entry told =
    let low = told.0 in
    let e : entry.1 - first ≡ suc (entry.1 - (first + 1)) = omega arith in
    (omega arith, ap (node_number_at (cached ∷ cached_nodes)) e ∙ told.1)

-- each is of a node
entries-told : (first : ℕ) (cached_nodes : List (Option CachedNode)) (i : ℕ) → i < length (entries_from first cached_nodes)
    → (first ≤ (get_or (entries_from first cached_nodes) i (0, 0)).1) × (node_number_at cached_nodes ((get_or (entries_from first cached_nodes) i (0, 0)).1 - first) ≡ Some (get_or (entries_from first cached_nodes) i (0, 0)).0)
entries-told first [] i h = absurd (omega arith)
entries-told first (None ∷ cached_nodes) i h = told-later first None cached_nodes (get_or (entries_from (first + 1) cached_nodes) i (0, 0)) (entries-told (first + 1) cached_nodes i h)
entries-told first (Some one ∷ cached_nodes) zero h = let e : first - first ≡ 0 = omega arith in (omega arith, ap (node_number_at (Some one ∷ cached_nodes)) e)
entries-told first (Some one ∷ cached_nodes) (suc i) h = told-later first (Some one) cached_nodes (get_or (entries_from (first + 1) cached_nodes) i (0, 0)) (entries-told (first + 1) cached_nodes i (omega arith))

-- each node has one
entries-listed : (first : ℕ) (cached_nodes : List (Option CachedNode)) (place number : ℕ) → node_number_at cached_nodes place ≡ Some number → Contains (entries_from first cached_nodes) (number, first + place)
entries-listed first [] place number is = absurd (some≢none number (sym is))
entries-listed first (None ∷ cached_nodes) zero number is = absurd (some≢none number (sym is))
entries-listed first (None ∷ cached_nodes) (suc place) number is =
    let e : first + 1 + place ≡ first + suc place = omega arith in
    subst (λ (p : ℕ). Contains (entries_from (first + 1) cached_nodes) (number, p)) e (entries-listed (first + 1) cached_nodes place number is)
entries-listed first (Some one ∷ cached_nodes) zero number is =
    let e : first ≡ first + 0 = omega arith in
    (0, omega arith, ap (λ (n : ℕ). (n, first)) (same_Some one.fields.number number is) ∙ ap (λ (p : ℕ). (number, p)) e)
entries-listed first (Some one ∷ cached_nodes) (suc place) number is =
    let e : first + 1 + place ≡ first + suc place = omega arith in
    let found = subst (λ (p : ℕ). Contains (entries_from (first + 1) cached_nodes) (number, p)) e (entries-listed (first + 1) cached_nodes place number is) in
    (suc found.0, omega (arith, found.1), found.2)

entries-count : (first : ℕ) (cached_nodes : List (Option CachedNode)) → length (entries_from first cached_nodes) ≡ count_of_all cached_nodes
entries-count first [] = refl
entries-count first (None ∷ cached_nodes) = entries-count (first + 1) cached_nodes
entries-count first (Some one ∷ cached_nodes) = omega (arith, entries-count (first + 1) cached_nodes)

-- a place has at most one

abbrev is_for : (place : ℕ) → ℕ × ℕ → ℕ
is_for place entry = once_if (eqb place entry.1)

entries-none : (first : ℕ) (cached_nodes : List (Option CachedNode)) (place : ℕ) → place < first → sum_by (is_for place) (entries_from first cached_nodes) ≡ 0
entries-none first [] place low = refl
entries-none first (None ∷ cached_nodes) place low = entries-none (first + 1) cached_nodes place (omega arith)
entries-none first (Some one ∷ cached_nodes) place low =
    omega (arith, sum_by-cons (is_for place) (one.fields.number, first) (entries_from (first + 1) cached_nodes), once-off place first (omega arith), entries-none (first + 1) cached_nodes place (omega arith))

entries-once : (first : ℕ) (cached_nodes : List (Option CachedNode)) (place : ℕ) → sum_by (is_for place) (entries_from first cached_nodes) ≤ 1
entries-once first [] place = omega arith
entries-once first (None ∷ cached_nodes) place = entries-once (first + 1) cached_nodes place
entries-once first (Some one ∷ cached_nodes) place = elim (cases_eq place first) [
  | inl e ↦ omega (arith, sum_by-cons (is_for place) (one.fields.number, first) (entries_from (first + 1) cached_nodes), once-at place first e, entries-none (first + 1) cached_nodes place (omega arith))
  | inr off ↦ omega (arith, sum_by-cons (is_for place) (one.fields.number, first) (entries_from (first + 1) cached_nodes), once-off place first off, entries-once (first + 1) cached_nodes place)
]

sum-some : (place : ℕ) (index : Keyed ℕ) (i : ℕ) → i < length index → place ≡ (get_or index i (0, 0)).1 → 1 ≤ sum_by (is_for place) index
sum-some place [] i h is = absurd (omega arith)
sum-some place (entry ∷ index) zero h is = omega (arith, sum_by-cons (is_for place) entry index, once-at place entry.1 is)
sum-some place (entry ∷ index) (suc i) h is = omega (arith, sum_by-cons (is_for place) entry index, sum-some place index i (omega arith) is)

sum-two : (place : ℕ) (index : Keyed ℕ) (i : ℕ) → suc i < length index → place ≡ (get_or index i (0, 0)).1 → place ≡ (get_or index (suc i) (0, 0)).1 → 2 ≤ sum_by (is_for place) index
sum-two place [] i h is next = absurd (omega arith)
sum-two place (entry ∷ index) zero h is next = omega (arith, sum_by-cons (is_for place) entry index, once-at place entry.1 is, sum-some place index 0 (omega arith) next)
sum-two place (entry ∷ index) (suc i) h is next = omega (arith, sum_by-cons (is_for place) entry index, sum-two place index i (omega arith) is next)

-- ---- the entries in another order

at-contains : (index : Keyed ℕ) (number place : ℕ) → at number index ≡ Some place → Contains index (number, place)
at-contains [] number place is = absurd (some≢none place (sym is))
at-contains (entry ∷ index) number place is = elim (cases_eq number entry.0) [
  | inl e ↦
      let here : entry.1 ≡ place = same_Some entry.1 place (sym (at-first entry.0 number entry.1 index e) ∙ is) in
      (0, omega arith, ap (λ (n : ℕ). (n, entry.1)) (sym e) ∙ ap (λ (p : ℕ). (number, p)) here)
  | inr off ↦ let found = at-contains index number place (sym (at-rest entry.0 number entry.1 index off) ∙ is) in (suc found.0, omega (arith, found.1), found.2)
]

contains-at : (index : Keyed ℕ) (number place : ℕ) → IsAbove 0 index → Contains index (number, place) → at number index ≡ Some place
contains-at index number place above found =
    ap (λ (entry : ℕ × ℕ). at entry.0 index) (sym found.2) ∙ at-entry 0 index above found.0 (number, place) found.1 ∙ ap (λ (entry : ℕ × ℕ). Some entry.1) found.2

rising-above : (least : ℕ) (index : Keyed ℕ) → ((i : ℕ) → i + 1 < length index → key_at index i < key_at index (i + 1)) → (0 < length index → least < key_at index 0) → IsAbove least index
rising-above least [] rise first = tt
rising-above least (entry ∷ index) rise first =
    (first (omega arith), rising-above entry.0 index (λ i h. rising-rest entry index i (rise (suc i) (omega arith))) (λ h. rise 0 (omega arith)))
  where
    rising-rest : (entry : ℕ × ℕ) (index : Keyed ℕ) (i : ℕ) → key_at (entry ∷ index) (suc i) < key_at (entry ∷ index) (suc i + 1) → key_at index i < key_at index (i + 1)
    rising-rest entry index i low =
        let e : suc i + 1 ≡ suc (i + 1) = omega arith in
        subst (λ (j : ℕ). key_at index i < key_at (entry ∷ index) j) e low

module _ (cached_nodes : List (Option CachedNode)) (index : Keyed ℕ) (moved : IsPermutation (entries_from 0 cached_nodes) index) where
  told : (number place : ℕ) → Contains index (number, place) → node_number_at cached_nodes place ≡ Some number
  told number place has =
      let found = Contains-permutation index (entries_from 0 cached_nodes) (number, place) (IsPermutation-sym (entries_from 0 cached_nodes) index moved) has in
      let is : get_or (entries_from 0 cached_nodes) found.0 (0, 0) ≡ (number, place) = get_or_default (entries_from 0 cached_nodes) found.0 (0, 0) (number, place) found.1 ∙ found.2 in
      let there = (entries-told 0 cached_nodes found.0 found.1).1 in
      let whole : place - 0 ≡ place = omega arith in
      ap (node_number_at cached_nodes) (sym whole) ∙ ap (λ (entry : ℕ × ℕ). node_number_at cached_nodes (entry.1 - 0)) (sym is) ∙ there ∙ ap (λ (entry : ℕ × ℕ). Some entry.0) is

  told-at : (i : ℕ) → i < length index → node_number_at cached_nodes (get_or index i (0, 0)).1 ≡ Some (key_at index i)
  told-at i h = told (key_at index i) (get_or index i (0, 0)).1 (Contains-get_or index i (0, 0) h)

  listed : (number place : ℕ) → node_number_at cached_nodes place ≡ Some number → Contains index (number, place)
  listed number place is =
      let whole : 0 + place ≡ place = omega arith in
      Contains-permutation (entries_from 0 cached_nodes) index (number, place) moved (subst (λ (p : ℕ). Contains (entries_from 0 cached_nodes) (number, p)) whole (entries-listed 0 cached_nodes place number is))

  pub own-different : HaveOwnPlaces cached_nodes → AreDifferent index
  own-different own i h same =
      let next : i + 1 ≡ suc i = omega arith in
      let here = told-at i (omega arith) in
      let there = told-at (i + 1) h in
      let one : (get_or index i (0, 0)).1 ≡ (get_or index (i + 1) (0, 0)).1 = own (get_or index i (0, 0)).1 (get_or index (i + 1) (0, 0)).1 (key_at index i) here (there ∙ ap (λ (n : ℕ). Some n) (sym same)) in
      let two = sum-two (get_or index i (0, 0)).1 index i (omega arith) refl (one ∙ ap (λ (j : ℕ). (get_or index j (0, 0)).1) next) in
      omega (arith, two, entries-once 0 cached_nodes (get_or index i (0, 0)).1, sum_by-IsPermutation (is_for (get_or index i (0, 0)).1) (entries_from 0 cached_nodes) index moved)

  pub filled : (free : List ℕ) (charge : ℕ) → length cached_nodes ≤ MAX_NODES → AreNumbered cached_nodes → AreFew cached_nodes → IsNonDecreasingBy (λ entry. entry.0) index → AreDifferent index
      → ((n : ℕ) → times n free ≡ vacant n cached_nodes) → length free + count_of_all cached_nodes ≡ length cached_nodes → charge ≡ charge_of_all cached_nodes → IsIndexed cached_nodes index free charge
  filled free charge few numbered each sorted differ places count charge_is =
      let long : length index ≡ count_of_all cached_nodes = length_permutation (entries_from 0 cached_nodes) index moved ∙ entries-count 0 cached_nodes in
      let rise : (i : ℕ) → i + 1 < length index → key_at index i < key_at index (i + 1) =
      λ i h. let up = sorted i (i + 1) (0, 0) (omega arith) h in let off = differ i h in omega arith in
      let above : IsAbove 0 index = rising-above 0 index rise (λ h. numbered (get_or index 0 (0, 0)).1 (key_at index 0) (told-at 0 h)) in
      record {
        few = few;
        each = each;
        rising = above;
        found = λ number place is. told number place (at-contains index number place is);
        indexed = λ number place is. contains-at index number place above (listed number place is);
        places = places;
        whole = omega (arith, long, count);
        count_is = long;
        charge_is = charge_is;
      }
