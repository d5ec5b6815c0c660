-- Orders that are searched by a test, and an order that a sort makes.
use Rattle.std.proofs.Common.{ℕ, zero, suc, None, Some, Bool, true, false, true≢false, not, eqb, List, [], ◌∷◌, ◌++◌, ◌≡◌, ◌<◌, ◌≤◌, ◌+◌, ◌-◌, ◌∙◌, inl, inr, Ordering, Less, Equal, Greater, length, get_or, map, take, refl, sym, ap, subst, arith}
use Rattle.std.specs.List.{Contains, AllByRecursion, IsDistinct, position_or_len}
use Rattle.std.specs.List.Sorted.{IsPermutation, IsSortedBy, IsStrictlyIncreasing}
use Rattle.std.specs.Ordering.{is_lt}
use Rattle.std.proofs.lemmas.Bool.{eqb-true, eqb-false, ne_eqb, cases_eq}
use Rattle.std.proofs.lemmas.Bool.Decides.{eqb_tells, Decides-eqb}
use Rattle.std.proofs.lemmas.List.{get_or-map, length-map, get_or_default, length_push}
use Rattle.std.proofs.Math.Seq.{take-append_seam}
use Rattle.std.proofs.lemmas.List.Kept.{AllPairs-from_increasing}
use Rattle.std.proofs.lemmas.List.MinMax.{ranks_by}
use Rattle.std.proofs.lemmas.List.Sorted.{sorted_far, IsPermutation-map, IsPermutation-sym, Contains-permutation, All-permutation, length_permutation}
use Rattle.std.proofs.lemmas.List.Sums.{fails_before_first, passes_at_first, prefix_len-le-length}
use Rattle.std.proofs.lemmas.Map.Keys.{IsDistinct-IsPermutation, apart_from_distinct}
use Rattle.std.proofs.lemmas.Map.Made.{IsDistinct-from_AllPairs}
use Rattle.std.proofs.lemmas.Map.Steps.{length-le_from_distinct_below}
use Rattle.std.proofs.lemmas.Map.Views.{Contains-from_any}
use Rattle.std.proofs.lemmas.Option.{slice_get_cases, get_or_from_slice_get}
use Rattle.std.proofs.lemmas.Fn.{answers_by}
use Rattle.std.specs.Fn.{Called, AlwaysReturns}
use Rattle.std.specs.Prelude.{slice_get}
use denote.Param.Members.{Mut}
use Rattle.chunks.specs.Search.{IsMonotone}
use Rattle.model_tree.proofs.Trees.KeyedLaws.{some≢none}
use Rattle.directory.specs.declared.order.By.{By}
use Rattle.directory.specs.declared.order.Sought.{Sought}
use Rattle.directory.specs.declared.order.PlacedEntry.{PlacedEntry}
use Rattle.directory.specs.Records.{Record}
use Rattle.directory.specs.Order.{compare_placed, at_place, placed_of, placed_in, is_reached, IsBefore, AreRising, IsOrder, IsPosition, ArePlaced}
use Rattle.directory.proofs.Rising.{placed_total, not_before_itself, before_trans, other_before, rising_at, all_from_at}

-- A search by the test

less_from_test : (o : Ordering) → not (is_lt o) ≡ false → o ≡ Less
less_from_test Less is = refl
less_from_test Equal is = absurd (true≢false is)
less_from_test Greater is = absurd (true≢false is)

module _ (by : By) (records : List Record) (order : List ℕ) (sought : Sought) (rising : AreRising by records order) where
  abbrev reached : ℕ → Bool
  reached = is_reached by records sought

  before : (place : ℕ) → reached place ≡ false → IsBefore by (at_place records place) (placed_of sought)
  before place is = less_from_test (compare_placed by (at_place records place) (placed_of sought)) is

  fails : (place : ℕ) → IsBefore by (at_place records place) (placed_of sought) → reached place ≡ false
  fails place is = ap (λ o. not (is_lt o)) is

  pub reached_monotone : IsMonotone reached order
  reached_monotone i j d low within is = which (reached (get_or order j d)) refl
    where
      which : (b : Bool) → reached (get_or order j d) ≡ b → reached (get_or order j d) ≡ true
      which true told = told
      which false told =
          let first = before_trans by (at_place records (get_or order i d)) (at_place records (get_or order j d)) (placed_of sought)
          (rising_at by records order i j d rising low within) (before (get_or order j d) told) in
          absurd (true≢false (sym is ∙ fails (get_or order i d) first))

  pub reached_position : (at : ℕ) → at ≡ position_or_len reached order → IsPosition by records order (placed_of sought) at
  reached_position at is = record {
    within = omega (arith, is, prefix_len-le-length (λ place. not (reached place)) order);
    before = λ k low. before (get_or order k 0) (fails_before_first reached order k 0 (omega (arith, is, low)));
    behind = λ k high within first.
        let here : reached (get_or order at 0) ≡ true =
        subst (λ i. reached (get_or order i 0) ≡ true) (sym is) (passes_at_first reached order 0 (omega (arith, is, high, within))) in
        let passes : reached (get_or order k 0) ≡ true = elim (cases_eq at k) [
          | inl same ↦ subst (λ i. reached (get_or order i 0) ≡ true) same here
          | inr off ↦ reached_monotone at k 0 (omega (arith, high, off)) within here
        ] in
        true≢false (sym passes ∙ fails (get_or order k 0) first);
  }

-- A rising list has each place once

module _ (by : By) (records : List Record) where
  rising_distinct : (xs : List ℕ) → AreRising by records xs → IsDistinct eqb xs
  unfolding IsDistinct
  rising_distinct [] rising = tt
  rising_distinct (x ∷ xs) rising = (each xs rising.0, rising_distinct xs rising.1)
    where
      each : (ys : List ℕ) → AllByRecursion (λ y. IsBefore by (at_place records x) (at_place records y)) ys → AllByRecursion (λ y. eqb x y ≡ false) ys
      each [] all = tt
      each (y ∷ ys) all =
          (ne_eqb x y (λ same. not_before_itself by (at_place records x) (subst (λ z. IsBefore by (at_place records x) (at_place records z)) (sym same) all.0)), each ys all.1)

  -- so there is room for one that it lacks
  pub room_left : (order : List ℕ) (n place : ℕ) → AreRising by records order → ((other : ℕ) → Contains order other → other < n) → (Contains order place → ⊥) → place < n
      → length order < n
  unfolding IsDistinct
  room_left order n place rising low new inside =
      length-le_from_distinct_below (place ∷ order) n (
        all_from_at (λ y. eqb place y ≡ false) order (λ k within. ne_eqb place (get_or order k 0) (λ same.
            new (k, within, get_or_default order k place 0 within ∙ sym same))),
        rising_distinct order rising,
      )
      (λ q has. below q (Contains-from_any eqb-true q (place ∷ order) has))
    where
      below : (q : ℕ) → Contains (place ∷ order) q → q < n
      below q (zero, within, is) = subst (λ x. x < n) is inside
      below q (suc k, within, is) = low q (k, omega arith, is)

  rising_from : (xs : List ℕ) → ((i j : ℕ) → i < j → j < length xs → IsBefore by (at_place records (get_or xs i 0)) (at_place records (get_or xs j 0))) → AreRising by records xs
  rising_from [] pairs = tt
  rising_from (x ∷ xs) pairs = (
    all_from_at (λ y. IsBefore by (at_place records x) (at_place records y)) xs (λ k within. pairs 0 (suc k) (omega arith) (omega arith)),
    rising_from xs (λ i j low within. pairs (suc i) (suc j) (omega arith) (omega arith)),
  )

-- A sort

abbrev pub place_in : PlacedEntry → ℕ
place_in one = one.place

abbrev pub sorts_before : By → PlacedEntry → PlacedEntry → Bool
sorts_before by one other = is_lt (compare_placed by (placed_in one) (placed_in other))

not_less : (o : Ordering) → is_lt o ≡ false → o ≡ Less → ⊥
not_less o is less = absurd (true≢false (sym (ap is_lt less) ∙ is))

module _ (by : By) (records : List Record) (all sorted : List PlacedEntry) (placed : ArePlaced all records) (moved : IsPermutation all sorted)
    (up : IsSortedBy (sorts_before by) sorted) where
  place_is : (k : ℕ) (d : PlacedEntry) → k < length all → (get_or all k d).place ≡ k
  place_is k d within = ap (λ (x : Record × ℕ). x.1) (placed.each k d within)

  entry_at : (k e : ℕ) → k < length all → get_or (map place_in all) k e ≡ k
  entry_at k e within = elim (slice_get_cases all k).1 [
    | inl has ↦ get_or-map place_in all k has.0 e within ∙ place_is k has.0 within
    | inr past ↦ absurd (omega (arith, past.0))
  ]

  each_at_its : (d : PlacedEntry) (k : ℕ) → k < length sorted → placed_in (get_or sorted k d) ≡ at_place records (get_or sorted k d).place
  each_at_its d k within =
      All-permutation (λ one. placed_in one ≡ at_place records one.place) all sorted moved
      (λ i e inside. placed.each i e inside ∙ ap (at_place records) (sym (place_is i e inside))) k d within

  moved_places : IsPermutation (map place_in all) (map place_in sorted)
  moved_places = IsPermutation-map place_in all sorted moved

  rising_places : IsStrictlyIncreasing (map place_in all)
  rising_places k within =
      let inside : k + 1 < length all = omega (arith, length-map all place_in) in
      omega (arith, entry_at k 0 (omega (arith, inside)), entry_at (k + 1) 0 inside)

  apart : IsDistinct eqb (map place_in sorted)
  apart =
      IsDistinct-IsPermutation eqb (λ x y. flips x y) (map place_in all) (map place_in sorted) moved_places
      (IsDistinct-from_AllPairs Decides-eqb (map place_in all) (λ i j d low within same.
      let less = AllPairs-from_increasing (map place_in all) rising_places i j d low within in
      absurd (omega (arith, less, same))))
    where
      flips : (x y : ℕ) → eqb x y ≡ eqb y x
      flips x y = elim (eqb_tells x y) [
        | inl is ↦ ap (λ z. eqb z y) is.1 ∙ ap (λ z. eqb y z) (sym is.1)
        | inr off ↦ off.0 ∙ sym (ne_eqb y x (λ same. off.1 (sym same)))
      ]

  pair_rises : (i j : ℕ) → i < j → j < length (map place_in sorted)
      → IsBefore by (at_place records (get_or (map place_in sorted) i 0)) (at_place records (get_or (map place_in sorted) j 0))
  pair_rises i j low within = elim (slice_get_cases sorted j).1 [
    | inl has ↦ step has.0 (omega (arith, within, length-map sorted place_in))
    | inr past ↦ absurd (omega (arith, past.0, within, length-map sorted place_in))
  ]
    where
      step : (d : PlacedEntry) → j < length sorted
          → IsBefore by (at_place records (get_or (map place_in sorted) i 0)) (at_place records (get_or (map place_in sorted) j 0))
      step d inside =
          let first : get_or (map place_in sorted) i 0 ≡ (get_or sorted i d).place = get_or-map place_in sorted i d 0 (omega (arith, low, inside)) in
          let later : get_or (map place_in sorted) j 0 ≡ (get_or sorted j d).place = get_or-map place_in sorted j d 0 inside in
          let one_at = each_at_its d i (omega (arith, low, inside)) ∙ ap (at_place records) (sym first) in
          let other_at = each_at_its d j inside ∙ ap (at_place records) (sym later) in
          let never = sorted_far (sorts_before by) (ranks_by (placed_total by) placed_in) sorted up i j d (omega (arith, low)) inside in
          other_before by (at_place records (get_or (map place_in sorted) j 0)) (at_place records (get_or (map place_in sorted) i 0))
          (λ same. eqb-false (get_or (map place_in sorted) i 0) (get_or (map place_in sorted) j 0)
          (apart_from_distinct eqb (map place_in sorted) i j 0 apart low within) (sym same))
          (λ less. not_less (compare_placed by (placed_in (get_or sorted j d)) (placed_in (get_or sorted i d))) never
          (subst (λ x. compare_placed by x (placed_in (get_or sorted i d)) ≡ Less) (sym other_at)
          (subst (λ x. compare_placed by (at_place records (get_or (map place_in sorted) j 0)) x ≡ Less) (sym one_at) less)))

  pub sorted_order : IsOrder by (map place_in sorted) records
  sorted_order = record {
    rising = rising_from by records (map place_in sorted) pair_rises;
    all = λ place. (
      λ has.
          let was = Contains-permutation (map place_in sorted) (map place_in all) place (IsPermutation-sym (map place_in all) (map place_in sorted) moved_places) has in
          let inside : was.0 < length all = omega (arith, was.1, length-map all place_in) in
          let is : was.0 ≡ place = sym (entry_at was.0 place inside) ∙ was.2 in
          omega (arith, inside, is, placed.many),
      λ low.
          let inside : place < length all = omega (arith, low, placed.many) in
          Contains-permutation (map place_in all) (map place_in sorted) place moved_places (place, omega (arith, inside, length-map all place_in), entry_at place place inside),
    );
  }

  pub sorted_few : length sorted ≡ length records
  sorted_few = length_permutation all sorted moved ∙ placed.many

  -- each place is below the number of the records
  pub sorted_low : (k : ℕ) (d : PlacedEntry) → k < length sorted → (get_or sorted k d).place < length records
  sorted_low = All-permutation (λ one. one.place < length records) all sorted moved (λ i e inside. omega (arith, place_is i e inside, inside, placed.many))

-- each call of a closure that changes no capture
pub answers_as : {F X R : Type 0} (g : Mut F X R) (P : X → R → Type 0) (f : F) → ((a : X) (r : R) (f' : F) → Called g f a r f' → P a r × (f' ≡ f)) → AlwaysReturns g P f
answers_as g P f step = answers_by g P (λ s. s ≡ f) (λ s a r s' h is. step a r s' (subst (λ t. Called g t a r s') is h)) f refl

-- What a read of an order finds

pub past_end : (xs : List ℕ) (i : ℕ) → slice_get xs i ≡ None → length xs ≤ i
past_end xs i none = elim (slice_get_cases xs i).1 [
  | inl has ↦ absurd (some≢none has.0 (sym has.2 ∙ none))
  | inr past ↦ past.0
]

pub found_at : (xs : List ℕ) (i x : ℕ) → slice_get xs i ≡ Some x → (i < length xs) × (get_or xs i 0 ≡ x)
found_at xs i x is = elim (slice_get_cases xs i).1 [
  | inl has ↦ (has.1, get_or_from_slice_get xs i x 0 is)
  | inr past ↦ absurd (some≢none x (sym is ∙ past.1))
]

-- A record after the last

pub before_last : (xs : List Record) (last : Record) → take (length (xs ++ last ∷ []) - 1) (xs ++ last ∷ []) ≡ xs
before_last xs last = ap (λ n. take n (xs ++ last ∷ [])) (shorter (length_push xs last)) ∙ take-append_seam xs (last ∷ [])
  where
    shorter : length (xs ++ last ∷ []) ≡ length xs + 1 → length (xs ++ last ∷ []) - 1 ≡ length xs
    shorter is = omega (arith, is)
