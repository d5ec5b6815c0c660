-- The orders of records after a change of these, and what a search in them finds.
use Rattle.std.proofs.Common.{ℕ, zero, suc, List, [], ◌∷◌, ◌≡◌, ◌≢◌, ◌<◌, ◌≤◌, ◌+◌, ◌-◌, ◌∙◌, Some, None, inl, inr, length, get_or, set, take, refl, sym, ap, subst, arith}
use Rattle.std.specs.List.{Contains}
use Rattle.std.proofs.lemmas.Bool.{cases_eq, cases_lt, cases_order}
use Rattle.std.proofs.lemmas.List.{length-set, length-take, get_or-set_other, get_or_default, get_or-take}
use Rattle.model_tree.specs.Trees.Keyed.{at}
use Rattle.model_tree.proofs.Trees.KeyedLaws.{at-first, at-rest}
use Rattle.directory.specs.declared.order.By.{By}
use Rattle.directory.specs.declared.order.By.TheVariants as by
use Rattle.directory.specs.Records.{Record, record_from, stamp_of, without_place}
use Rattle.directory.specs.Least.{IsLeast}
use Rattle.directory.specs.Order.{compare_placed, at_place, IsBefore, AreRising, IsOrder, IsPosition, IsInserted, IsTakenOut}
use Rattle.directory.proofs.Kept.{moved_at}
use Rattle.directory.proofs.Rising.{before_cases, less_before, tied_less, cmp_low, cmp_same, low_first, tied_same, rising_at, rising_same}

abbrev nothing : Record
nothing = record_from 0 [] 0

-- places whose records are the same
pub placed_same : (by : By) (xs ys : List Record) (order : List ℕ) → ((a : ℕ) → Contains order a → get_or ys a nothing ≡ get_or xs a nothing) → AreRising by xs order → AreRising by ys order
placed_same by xs ys order same rising =
    rising_same by xs ys order
    (λ a b has has_b.
    ap (λ (r : Record). compare_placed by (r, a) (at_place ys b)) (same a has) ∙ ap (λ (r : Record). compare_placed by (at_place xs a) (r, b)) (same b has_b))
    rising

-- A record at a place changes

module _ (by : By) (order mid : List ℕ) (xs ys : List Record) (place : ℕ) (kept : IsOrder by order xs) (within : place < length xs) (out : IsTakenOut by xs order mid place) where
  pub left_within : (other : ℕ) → Contains mid other → other < length xs
  left_within other has = (kept.all other).0 ((out.all other).0 has).1

  pub not_left : Contains mid place → ⊥
  not_left has = ((out.all place).0 has).0 refl

  module _ (changed : Record) (is : ys ≡ set xs place changed) where
    pub left_rising : AreRising by ys mid
    left_rising =
        placed_same by xs ys mid
        (λ a has. ap (λ rs. get_or rs a nothing) is ∙ get_or-set_other xs place a changed nothing ((out.all a).0 has).0) out.rising

    pub same_many : length ys ≡ length xs
    same_many = ap length is ∙ length-set xs place changed

    pub put_back : (new : List ℕ) → IsInserted by ys mid new place → IsOrder by new ys
    put_back new put = record {
      rising = put.rising;
      all = λ other. (
        λ has. elim ((put.all other).0 has) [
          | inl same ↦ omega (arith, same_many)
          | inr left ↦ omega (arith, same_many, left_within other left)
        ],
        λ low. elim (cases_eq other place) [
          | inl here ↦ (put.all other).1 (inl here)
          | inr away ↦ (put.all other).1 (inr ((out.all other).1 (away, (kept.all other).1 (omega (arith, same_many)))))
        ],
      );
    }

-- The last record moves into the place of one

module _ (xs : List Record) (p : ℕ) (h : p < length xs) where
  abbrev last : Record
  last = get_or xs (length xs - 1) nothing

  last_is : last ≡ get_or xs (length xs - 1) last
  last_is = get_or_default xs (length xs - 1) nothing last (omega arith)

  one_less : length (without_place xs p) ≡ length xs - 1
  one_less = omega (arith, length-take (length xs - 1) (set xs p last), length-set xs p last)

  stays : (i : ℕ) (d : Record) → i < length xs - 1 → i ≢ p → get_or (without_place xs p) i d ≡ get_or xs i d
  stays i d low apart = moved_at xs p h last last_is i d low apart

module _ (by : By) (order mid : List ℕ) (xs ys : List Record) (place : ℕ) (kept : IsOrder by order xs) (within : place < length xs) (out : IsTakenOut by xs order mid place) (is : ys ≡ without_place xs place) where
  fewer : length ys ≡ length xs - 1
  fewer = ap length is ∙ one_less xs place within

  -- it was the last itself
  pub shortened : length ys ≤ place → IsOrder by mid ys
  shortened end = record {
    rising = placed_same by xs ys mid
        (λ a has.
        let low : a < length xs = left_within by order mid xs ys place kept within out a has in
        let apart : a ≢ place = ((out.all a).0 has).0 in
        ap (λ rs. get_or rs a nothing) is ∙ stays xs place within a nothing (omega (arith, fewer, low, apart, end)) apart)
        out.rising;
    all = λ other. (
      λ has.
          let low : other < length xs = left_within by order mid xs ys place kept within out other has in
          let apart : other ≢ place = ((out.all other).0 has).0 in
          omega (arith, fewer, low, apart, end),
      λ low. (out.all other).1 (omega (arith, low, end), (kept.all other).1 (omega (arith, fewer, low))),
    );
  }

  module _ (low : place < length ys) where
    pub last_left : Contains mid (length ys)
    last_left = (out.all (length ys)).1 (omega (arith, low), (kept.all (length ys)).1 (omega (arith, fewer, within)))

    module _ (rest : List ℕ) (end_out : IsTakenOut by xs mid rest (length ys)) where
      pub rest_within : (other : ℕ) → Contains rest other → other < length ys
      rest_within other has =
          let was = (end_out.all other).0 has in
          let inside : other < length xs = left_within by order mid xs ys place kept within out other was.1 in
          let apart : other ≢ length ys = was.0 in
          omega (arith, fewer, inside, apart)

      pub none_here : Contains rest place → ⊥
      none_here has = ((out.all place).0 ((end_out.all place).0 has).1).0 refl

      pub rest_rising : AreRising by ys rest
      rest_rising =
          placed_same by xs ys rest
          (λ a has.
          ap (λ rs. get_or rs a nothing) is
          ∙ stays xs place within a nothing (omega (arith, fewer, rest_within a has)) ((out.all a).0 ((end_out.all a).0 has).1).0)
          end_out.rising

      pub moved : (new : List ℕ) → IsInserted by ys rest new place → IsOrder by new ys
      moved new put = record {
        rising = put.rising;
        all = λ other. (
          λ has. elim ((put.all other).0 has) [
            | inl same ↦ omega (arith, low, same)
            | inr left ↦ rest_within other left
          ],
          λ inside. elim (cases_eq other place) [
            | inl same ↦ (put.all other).1 (inl same)
            | inr away ↦
                (put.all other).1 (inr ((end_out.all other).1 (omega (arith, inside), (out.all other).1 (away, (kept.all other).1 (omega (arith, fewer, inside))))))
          ],
        );
      }

-- What a search finds

none_at : (key : ℕ) (xs : List Record) → ((i : ℕ) (d : Record) → i < length xs → stamp_of (get_or xs i d) ≢ key) → at key xs ≡ None
none_at key [] apart = refl
none_at key (x ∷ xs) apart =
    at-rest x.0 key x.1 xs (λ same. apart 0 x (omega arith) (sym same)) ∙ none_at key xs (λ i d within. apart (suc i) d (omega arith))

first_at : (xs : List Record) (i : ℕ) (d : Record) → i < length xs → ((j : ℕ) → j < i → stamp_of (get_or xs j d) ≢ stamp_of (get_or xs i d))
    → at (stamp_of (get_or xs i d)) xs ≡ Some (get_or xs i d).1
first_at [] i d within before = absurd (omega arith)
first_at (x ∷ xs) zero d within before = at-first x.0 x.0 x.1 xs refl
first_at (x ∷ xs) (suc i) d within before =
    at-rest x.0 (stamp_of (get_or xs i d)) x.1 xs (λ same. before 0 (omega arith) (sym same))
    ∙ first_at xs i d (omega arith) (λ j low. before (suc j) (omega arith))

module _ (order : List ℕ) (xs : List Record) (cookie far : ℕ) (kept : IsOrder by.Stamp order xs) (next : ℕ)
    (point : IsPosition by.Stamp xs order (record_from cookie [] 0, far) next) (wide : length xs ≤ far) where
  -- the stamp of a record that is before
  below : (a : ℕ) → IsBefore by.Stamp (at_place xs a) (record_from cookie [] 0, far) → stamp_of (get_or xs a nothing) ≤ cookie
  below a is = elim (before_cases by.Stamp (at_place xs a) (record_from cookie [] 0, far) is) [
    | inl less ↦ let low = low_first (stamp_of (get_or xs a nothing)) cookie less in omega arith
    | inr tied ↦ let same = tied_same (stamp_of (get_or xs a nothing)) cookie tied.0 in omega arith
  ]

  -- what is above the cookie is there or after
  above : (a : ℕ) (has : Contains order a) → cookie < stamp_of (get_or xs a nothing) → next ≤ has.0
  above a has high = elim (cases_lt has.0 next) [
    | inl low ↦
        let before = subst (λ x. IsBefore by.Stamp (at_place xs x) (record_from cookie [] 0, far)) (get_or_default order has.0 0 a has.1 ∙ has.2) (point.before has.0 low) in
        let most = below a before in
        absurd (omega arith)
    | inr past ↦ past
  ]

  pub none_least : length order ≤ next → IsLeast cookie xs None
  none_least end key high = none_at key xs (λ i d within is.
      let same = ap stamp_of (get_or_default xs i nothing d within) ∙ is in
      let has = (kept.all i).1 within in
      let past = above i has (omega (arith, same)) in
      let low : has.0 < length order = has.1 in
      absurd (omega arith))

  module _ (within : next < length order) where
    abbrev one : ℕ
    one = get_or order next 0

    pub its_place : one < length xs
    its_place = (kept.all one).0 (next, within, get_or_default order next one 0 within)

    high : cookie < stamp_of (get_or xs one nothing)
    high = elim (cases_order (stamp_of (get_or xs one nothing)) cookie) [
      | inl same ↦ absurd (point.behind next (omega arith) within (tied_before same))
      | inr off ↦ elim off [
        | inl low ↦ absurd (point.behind next (omega arith) within (less_before by.Stamp (at_place xs one) (record_from cookie [] 0, far) (cmp_low (stamp_of (get_or xs one nothing)) cookie low)))
        | inr more ↦ more
      ]
    ]
      where
        tied_before : stamp_of (get_or xs one nothing) ≡ cookie → IsBefore by.Stamp (at_place xs one) (record_from cookie [] 0, far)
        tied_before same = tied_less by.Stamp (at_place xs one) (record_from cookie [] 0, far) (cmp_same (stamp_of (get_or xs one nothing)) cookie same) (omega (arith, its_place, wide))

    -- any other one that is above the cookie comes after it
    others_behind : (other : ℕ) → other < length xs → cookie < stamp_of (get_or xs other nothing) → other ≢ one → IsBefore by.Stamp (at_place xs one) (at_place xs other)
    others_behind other inside up apart =
        let has = (kept.all other).1 inside in
        let past : next ≤ has.0 = above other has up in
        let d_is : get_or order has.0 0 ≡ other = get_or_default order has.0 0 other has.1 ∙ has.2 in
        elim (cases_eq next has.0) [
          | inl same ↦ absurd (apart (sym d_is ∙ ap (λ k. get_or order k 0) (sym same)))
          | inr off ↦ subst (λ x. IsBefore by.Stamp (at_place xs one) (at_place xs x)) d_is (rising_at by.Stamp xs order next has.0 0 kept.rising (omega arith) has.1)
        ]

    stamp_up : (other : ℕ) → IsBefore by.Stamp (at_place xs one) (at_place xs other)
        → (stamp_of (get_or xs one nothing) ≤ stamp_of (get_or xs other nothing)) × (stamp_of (get_or xs one nothing) ≡ stamp_of (get_or xs other nothing) → one < other)
    stamp_up other is = elim (before_cases by.Stamp (at_place xs one) (at_place xs other) is) [
      | inl less ↦
          let low = low_first (stamp_of (get_or xs one nothing)) (stamp_of (get_or xs other nothing)) less in
          (omega arith, λ same. absurd (omega arith))
      | inr tied ↦ let same = tied_same (stamp_of (get_or xs one nothing)) (stamp_of (get_or xs other nothing)) tied.0 in (omega arith, λ _. tied.1)
    ]

    pub found_least : (d : Record) → IsLeast cookie xs (Some (get_or xs one d))
    found_least d =
        let d_is : get_or xs one d ≡ get_or xs one nothing = get_or_default xs one d nothing its_place in
        subst (λ r. IsLeast cookie xs (Some r)) (sym d_is) (
          high,
          first_at xs one nothing its_place (λ j low same.
              let up = stamp_up j (others_behind j (omega (arith, its_place)) (omega (arith, same, high)) (omega (arith, low))) in
              let after : one < j = up.1 (sym same) in
              absurd (omega arith)),
          λ key above_it below_it. none_at key xs (λ i e within_it is.
              let stamp : stamp_of (get_or xs i nothing) ≡ key = ap stamp_of (get_or_default xs i nothing e within_it) ∙ is in
              let apart : i ≢ one = λ same. let twice : stamp_of (get_or xs i nothing) ≡ stamp_of (get_or xs one nothing) = ap (λ k. stamp_of (get_or xs k nothing)) same in omega arith in
              let up = (stamp_up i (others_behind i within_it (omega (arith, stamp)) apart)).0 in
              absurd (omega arith)),
        )

-- The first records

pub prefix_rising : (by : By) (order : List ℕ) (xs : List Record) (k : ℕ) → IsOrder by order (take k xs) → AreRising by xs order
prefix_rising by order xs k kept =
    placed_same by (take k xs) xs order
    (λ a has. let low : a < length (take k xs) = (kept.all a).0 has in sym (get_or-take k xs a nothing (omega (arith, low, length-take k xs)))) kept.rising

pub one_more : (by : By) (order new : List ℕ) (xs : List Record) (k : ℕ) → k < length xs → IsOrder by order (take k xs) → IsInserted by xs order new k → IsOrder by new (take (k + 1) xs)
one_more by order new xs k inside kept put = record {
  rising = placed_same by xs (take (k + 1) xs) new (λ a has. get_or-take (k + 1) xs a nothing (low_end a has)) put.rising;
  all = λ other. (
    λ has. let low = low_end other has in omega (arith, low, inside, length-take (k + 1) xs),
    λ low. elim (cases_eq other k) [
      | inl same ↦ (put.all other).1 (inl same)
      | inr off ↦ (put.all other).1 (inr ((kept.all other).1 (omega (arith, low, off, inside, length-take (k + 1) xs, length-take k xs))))
    ],
  );
}
  where
    low_end : (a : ℕ) → Contains new a → a < k + 1
    low_end a has = elim ((put.all a).0 has) [
      | inl same ↦ omega arith
      | inr old ↦ let low : a < length (take k xs) = (kept.all a).0 old in omega (arith, low, length-take k xs)
    ]
