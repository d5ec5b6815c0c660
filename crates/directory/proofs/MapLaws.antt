-- Records as a map by one of their keys: the name, or the stamp.
use Rattle.std.proofs.Common.{ℕ, zero, suc, Bool, true, false, List, [], ◌∷◌, ◌++◌, ◌≡◌, ◌≢◌, ◌<◌, ◌-◌, ◌∙◌, Option, Some, None, inl, inr, length, get_or, set, take, refl, sym, ap, arith}
use Rattle.std.proofs.lemmas.Bool.{cases_eq, cases_order}
use Rattle.std.proofs.lemmas.List.{length-set, length-take, get_or-set_same, get_or-set_other, get_or_default}
use Rattle.model_tree.specs.Trees.Tree.{found_or}
use Rattle.directory.specs.Records.{Record, ApartBy}
use Rattle.directory.proofs.Kept.{moved_at, moved_here, moved_apart}

module _ {K : Type 0} (key_of : Record → K) (same : K → K → Bool) (same-true : (a b : K) → same a b ≡ true → a ≡ b) (same-refl : (a : K) → same a a ≡ true) where
  -- the first record of a key
  abbrev pub first : K → List Record → Option Record
  first key [] = None
  first key (entry ∷ rest) = found_or (same key (key_of entry)) entry (first key rest)

  some≢none : (x : Record) → Some x ≡ None → ⊥
  some≢none x is = cc

  not_same : (a b : K) → a ≢ b → same a b ≡ false
  not_same a b apart = step (same a b) refl
    where
      step : (is : Bool) → same a b ≡ is → same a b ≡ false
      step true is = absurd (apart (same-true a b is))
      step false is = is

  pub hit : (key : K) (entry : Record) (rest : List Record) → key ≡ key_of entry → first key (entry ∷ rest) ≡ Some entry
  hit key entry rest is =
      ap (λ (k : K). found_or (same k (key_of entry)) entry (first k rest)) is
      ∙ ap (λ (b : Bool). found_or b entry (first (key_of entry) rest)) (same-refl (key_of entry))

  pub missed : (key : K) (entry : Record) (rest : List Record) → key ≢ key_of entry → first key (entry ∷ rest) ≡ first key rest
  missed key entry rest apart = ap (λ (b : Bool). found_or b entry (first key rest)) (not_same key (key_of entry) apart)

  -- if there is none, no record has the key
  pub none_has : (key : K) (xs : List Record) (i : ℕ) (d : Record) → first key xs ≡ None → i < length xs → key_of (get_or xs i d) ≢ key
  none_has key [] i d none within = absurd (omega arith)
  none_has key (x ∷ xs) zero d none within = λ is. some≢none x (sym (hit key x xs (sym is)) ∙ none)
  none_has key (x ∷ xs) (suc i) d none within = step (same key (key_of x)) none (λ others. none_has key xs i d others (omega arith))
    where
      step : (b : Bool) → found_or b x (first key xs) ≡ None → (first key xs ≡ None → key_of (get_or xs i d) ≢ key) → key_of (get_or xs i d) ≢ key
      step true others further = absurd (some≢none x others)
      step false others further = further others

  pub all_miss : (key : K) (xs : List Record) → ((i : ℕ) (d : Record) → i < length xs → key_of (get_or xs i d) ≢ key) → first key xs ≡ None
  all_miss key [] none = refl
  all_miss key (x ∷ xs) none =
      missed key x xs (λ is. none 0 x (omega arith) (sym is)) ∙ all_miss key xs (λ i d within. none (suc i) d (omega arith))

  -- if records are apart, each is the first of its key
  pub its_own : (xs : List Record) (i : ℕ) (d : Record) → ApartBy key_of xs → i < length xs → first (key_of (get_or xs i d)) xs ≡ Some (get_or xs i d)
  its_own [] i d apart within = absurd (omega arith)
  its_own (x ∷ xs) zero d apart within = hit (key_of x) x xs refl
  its_own (x ∷ xs) (suc i) d apart within =
      missed (key_of (get_or xs i d)) x xs (λ is. apart 0 (suc i) d (omega arith) within (sym is))
      ∙ its_own xs i d (λ j k e before behind. apart (suc j) (suc k) e (omega arith) (omega arith)) (omega arith)

  -- the first of a key is somewhere, and has the key
  pub record Stands (key : K) (xs : List Record) (found : Record) (d : Record) : Type 0 where
    pub place : ℕ
    pub within : place < length xs
    pub here : get_or xs place d ≡ found
    pub has : key_of found ≡ key

  pub some_stands : (key : K) (xs : List Record) (found d : Record) → first key xs ≡ Some found → Stands key xs found d
  some_stands key [] found d is = absurd (some≢none found (sym is))
  some_stands key (x ∷ xs) found d is = step (same key (key_of x)) refl is (λ others. some_stands key xs found d others)
    where
      stands_on : Stands key xs found d → Stands key (x ∷ xs) found d
      stands_on there = record { place = suc there.place; within = omega (arith, there.within); here = there.here; has = there.has }

      one_is : (a b : Record) → Some a ≡ Some b → a ≡ b
      one_is a b e = cc

      step : (b : Bool) → same key (key_of x) ≡ b → found_or b x (first key xs) ≡ Some found
          → (first key xs ≡ Some found → Stands key xs found d) → Stands key (x ∷ xs) found d
      step true told others further =
          let one : x ≡ found = one_is x found others in
          record { place = 0; within = omega arith; here = one; has = ap key_of (sym one) ∙ sym (same-true key (key_of x) told) }
      step false told others further = stands_on (further others)

  -- One record is taken out, and the last one moves into its place
  module _ (xs : List Record) (p : ℕ) (within : p < length xs) (last : Record) (last_is : last ≡ get_or xs (length xs - 1) last) (apart : ApartBy key_of xs) where
    abbrev ys : List Record
    ys = take (length xs - 1) (set xs p last)

    length_ys : length ys ≡ length xs - 1
    length_ys = omega (arith, length-take (length xs - 1) (set xs p last), length-set xs p last)

    -- the place that a record that is left came from
    pub record Came (i : ℕ) (d : Record) : Type 0 where
      pub from : ℕ
      pub from_within : from < length xs
      pub from_other : from ≢ p
      pub is : get_or ys i d ≡ get_or xs from d

    came : (i : ℕ) (d : Record) → i < length ys → Came i d
    came i d there = elim (cases_eq i p) [
      | inl here ↦ record {
        from = length xs - 1;
        from_within = omega arith;
        from_other = omega (arith, length_ys);
        is = moved_here xs p within last last_is i d (omega (arith, length_ys)) here;
      }
      | inr other ↦ record {
        from = i;
        from_within = omega (arith, length_ys);
        from_other = other;
        is = moved_at xs p within last last_is i d (omega (arith, length_ys)) other;
      }
    ]

    differs : (i : ℕ) (d : Record) → i < length xs → i ≢ p → key_of (get_or xs i d) ≢ key_of (get_or xs p d)
    differs i d there other = elim (cases_order i p) [
      | inl same ↦ absurd (other same)
      | inr away ↦ elim away [
        | inl before ↦ apart i p d before within
        | inr behind ↦ λ is. apart p i d behind there (sym is)
      ]
    ]

    at_default : (i : ℕ) (d e : Record) (zs : List Record) → i < length zs → get_or zs i d ≡ get_or zs i e
    at_default i d e zs there = get_or_default zs i d e there

    pub taken_gone : (d : Record) → first (key_of (get_or xs p d)) ys ≡ None
    taken_gone d = all_miss (key_of (get_or xs p d)) ys (λ i e there.
        let from = came i d there in
        λ is. differs from.from d from.from_within from.from_other
        (sym (ap key_of (from.is)) ∙ (ap key_of (at_default i d e ys there) ∙ is)))

    owned : (key : K) (i : ℕ) (d found : Record) → i < length ys → get_or ys i d ≡ found → key_of found ≡ key → first key ys ≡ Some found
    owned key i d found there is has =
        ap (λ k. first k ys) (sym (ap key_of is ∙ has))
        ∙ (its_own ys i d (moved_apart xs p within last last_is key_of apart) there ∙ ap (λ (r : Record). Some r) is)

    stays : (key : K) (d : Record) → key ≢ key_of (get_or xs p d) → (found : Record) → Stands key xs found d → first key ys ≡ Some found
    stays key d other found at =
        let away : at.place ≢ p = λ same. other (sym at.has ∙ (ap key_of (sym at.here) ∙ ap (λ i. key_of (get_or xs i d)) same)) in
        elim (cases_eq at.place (length xs - 1)) [
          | inl end ↦
              let room : p < length xs - 1 = omega (arith, at.within) in
              owned key p d found (omega (arith, length_ys))
              (moved_here xs p within last last_is p d room refl ∙ (ap (λ i. get_or xs i d) (sym end) ∙ at.here)) at.has
          | inr before ↦
              let room : at.place < length xs - 1 = omega (arith, at.within) in
              owned key at.place d found (omega (arith, length_ys)) (moved_at xs p within last last_is at.place d room away ∙ at.here) at.has
        ]

    pub others_stay : (key : K) (d : Record) → key ≢ key_of (get_or xs p d) → first key ys ≡ first key xs
    others_stay key d other = step (first key xs) refl
      where
        step : (found : Option Record) → first key xs ≡ found → first key ys ≡ first key xs
        step None none = all_miss key ys (λ i e there.
            let from = came i e there in
            λ is. none_has key xs from.from e none from.from_within (sym (ap key_of from.is) ∙ is)) ∙ sym none
        step (Some found) is = stays key d other found (some_stands key xs found d is) ∙ sym is

  -- A record is put in the place of another, or after the last

  pub set_other : (key : K) (xs : List Record) (p : ℕ) (new d : Record) → p < length xs → key ≢ key_of new → key ≢ key_of (get_or xs p d)
      → first key (set xs p new) ≡ first key xs
  set_other key [] p new d within other apart = refl
  set_other key (x ∷ xs) zero new d within other apart = missed key new xs other ∙ sym (missed key x xs apart)
  set_other key (x ∷ xs) (suc p) new d within other apart =
      ap (found_or (same key (key_of x)) x) (set_other key xs p new d (omega arith) other apart)

  pub set_fresh : (xs : List Record) (p : ℕ) (new : Record) → p < length xs → first (key_of new) xs ≡ None → first (key_of new) (set xs p new) ≡ Some new
  set_fresh [] p new within none = absurd (omega arith)
  set_fresh (x ∷ xs) zero new within none = hit (key_of new) new xs refl
  set_fresh (x ∷ xs) (suc p) new within none =
      let apart : key_of new ≢ key_of x = λ is. some≢none x (sym (hit (key_of new) x xs is) ∙ none) in
      missed (key_of new) x (set xs p new) apart
      ∙ set_fresh xs p new (omega arith) (sym (missed (key_of new) x xs apart) ∙ none)

  pub set_same : (xs : List Record) (p : ℕ) (new d : Record) → ApartBy key_of xs → p < length xs → key_of (get_or xs p d) ≡ key_of new
      → first (key_of new) (set xs p new) ≡ Some new
  set_same [] p new d apart within is = absurd (omega arith)
  set_same (x ∷ xs) zero new d apart within is = hit (key_of new) new xs refl
  set_same (x ∷ xs) (suc p) new d apart within is =
      missed (key_of new) x (set xs p new) (λ same. apart 0 (suc p) d (omega arith) within (sym same ∙ sym is))
      ∙ set_same xs p new d (λ j k e before behind. apart (suc j) (suc k) e (omega arith) (omega arith)) (omega arith) is

  pub set_gone : (xs : List Record) (p : ℕ) (new d : Record) → ApartBy key_of xs → p < length xs → key_of new ≢ key_of (get_or xs p d)
      → first (key_of (get_or xs p d)) (set xs p new) ≡ None
  set_gone xs p new d apart within other = all_miss (key_of (get_or xs p d)) (set xs p new) (λ i e there. elim (cases_eq i p) [
    | inl here ↦ λ is. other (sym (ap key_of (ap (λ k. get_or (set xs p new) k e) here ∙ get_or-set_same xs p new e within)) ∙ is)
    | inr away ↦ λ is.
        let inside : i < length xs = omega (arith, length-set xs p new) in
        let one : key_of (get_or xs i d) ≡ key_of (get_or xs p d) =
        ap key_of (get_or_default xs i d e inside) ∙ (sym (ap key_of (get_or-set_other xs p i new e away)) ∙ is) in
        elim (cases_order i p) [
          | inl same ↦ away same
          | inr off ↦ elim off [ inl before ↦ apart i p d before within one | inr behind ↦ apart p i d behind inside (sym one) ]
        ]
  ])

  pub push_other : (key : K) (xs : List Record) (new : Record) → key ≢ key_of new → first key (xs ++ new ∷ []) ≡ first key xs
  push_other key [] new apart = missed key new [] apart
  push_other key (x ∷ xs) new apart = ap (found_or (same key (key_of x)) x) (push_other key xs new apart)

  pub push_fresh : (xs : List Record) (new : Record) → first (key_of new) xs ≡ None → first (key_of new) (xs ++ new ∷ []) ≡ Some new
  push_fresh [] new none = hit (key_of new) new [] refl
  push_fresh (x ∷ xs) new none =
      let apart : key_of new ≢ key_of x = λ is. some≢none x (sym (hit (key_of new) x xs is) ∙ none) in
      missed (key_of new) x (xs ++ new ∷ []) apart ∙ push_fresh xs new (sym (missed (key_of new) x xs apart) ∙ none)
