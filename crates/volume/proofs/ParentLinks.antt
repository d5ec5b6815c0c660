-- In one tree each number has at most one name, and the root has none.
use Rattle.std.proofs.Common.{◌≡◌, ◌≢◌, ◌≤◌, ◌<◌, ◌+◌, ℕ, zero, suc, List, [], ◌∷◌, Option, Some, None, get_or, refl, sym, ap, ◌∙◌, arith, inl, inr, eq-eqb, ne_eqb}
use Rattle.std.proofs.lemmas.Bool.{cases_eq}
use Rattle.std.proofs.lemmas.Option.{same_Some}
use Rattle.node_table.specs.Tables.{node_number_at, node_number, HaveOwnPlaces, HasNoNode}
use Rattle.layout.specs.CachedNodes.{CachedNode}
use Rattle.layout.specs.Marks.{times}
use Rattle.layout.specs.Laid.{AreNumbered}
use Rattle.layout.specs.SumLaws.{entry_numbers, other_numbers, numbers_of}
use Rattle.layout.proofs.NumberLaws.{once-off, once-at, times-append}
use Rattle.model_tree.specs.Trees.Tree.{root}
use Rattle.model_tree.proofs.Facts.OptionLaws.{some≢none}
use Rattle.tree_check.specs.Trees.{led_at, led_by, IsOneTree}
use Rattle.tree_check.proofs.TreeLaws.{numbered}
use Rattle.tree_check.proofs.Counting.{root-others}
use Rattle.volume.specs.ParentIndex.{PlaceLeadsTo, HasChild}

-- Names at places, and all names

led-one : (n : ℕ) (cached_nodes : List (Option CachedNode)) (p : ℕ) → times n (led_at cached_nodes p) ≤ times n (entry_numbers cached_nodes)
led-one n [] p = omega arith
led-one n (None ∷ cached_nodes) zero = omega arith
led-one n (Some cached ∷ cached_nodes) zero = omega (arith, times-append n (numbers_of cached.names) (entry_numbers cached_nodes))
led-one n (None ∷ cached_nodes) (suc p) = led-one n cached_nodes p
led-one n (Some cached ∷ cached_nodes) (suc p) = omega (arith, times-append n (numbers_of cached.names) (entry_numbers cached_nodes), led-one n cached_nodes p)

led-two : (n : ℕ) (cached_nodes : List (Option CachedNode)) (p q : ℕ) → p ≢ q → times n (led_at cached_nodes p) + times n (led_at cached_nodes q) ≤ times n (entry_numbers cached_nodes)
led-two n [] p q off = omega arith
led-two n (cached ∷ cached_nodes) zero zero off = absurd (off refl)
led-two n (None ∷ cached_nodes) zero (suc q) off = omega (arith, led-one n cached_nodes q)
led-two n (Some cached ∷ cached_nodes) zero (suc q) off = omega (arith, times-append n (numbers_of cached.names) (entry_numbers cached_nodes), led-one n cached_nodes q)
led-two n (None ∷ cached_nodes) (suc p) zero off = omega (arith, led-one n cached_nodes p)
led-two n (Some cached ∷ cached_nodes) (suc p) zero off = omega (arith, times-append n (numbers_of cached.names) (entry_numbers cached_nodes), led-one n cached_nodes p)
led-two n (None ∷ cached_nodes) (suc p) (suc q) off = led-two n cached_nodes p q (omega arith)
led-two n (Some cached ∷ cached_nodes) (suc p) (suc q) off = omega (arith, times-append n (numbers_of cached.names) (entry_numbers cached_nodes), led-two n cached_nodes p q (omega arith))

-- the place of a name that leads to a number
led-where : (n : ℕ) (cached_nodes : List (Option CachedNode)) → 0 < times n (entry_numbers cached_nodes) → (p : ℕ) × PlaceLeadsTo cached_nodes p n
led-where n [] some = absurd (omega arith)
led-where n (None ∷ cached_nodes) some = let found = led-where n cached_nodes some in (suc found.0, found.1)
led-where n (Some cached ∷ cached_nodes) some = elim (cases_eq (times n (numbers_of cached.names)) 0) [
  | inl none ↦
      let found = led-where n cached_nodes (omega (arith, times-append n (numbers_of cached.names) (entry_numbers cached_nodes))) in
      (suc found.0, found.1)
  | inr has ↦ (0, omega arith)
]

-- The numbers of the nodes except the root

others-lack : (n : ℕ) (cached_nodes : List (Option CachedNode)) → HasNoNode cached_nodes n → times n (other_numbers cached_nodes) ≡ 0
others-lack n [] lack = refl
others-lack n (None ∷ cached_nodes) lack = others-lack n cached_nodes (λ p. lack (suc p))
others-lack n (Some cached ∷ cached_nodes) lack =
    let rest = others-lack n cached_nodes (λ p. lack (suc p)) in
    let here = once-off n cached.fields.number (λ e. lack 0 (ap Some (sym e))) in
    elim (cases_eq cached.fields.number root) [
      | inl is ↦ rw (eq-eqb cached.fields.number root is) rest
      | inr off ↦ rw (ne_eqb cached.fields.number root off) (omega (arith, here, rest))
    ]

own-rest : (cached : Option CachedNode) (cached_nodes : List (Option CachedNode)) → HaveOwnPlaces (cached ∷ cached_nodes) → HaveOwnPlaces cached_nodes
own-rest cached cached_nodes own p q n here there = let same : suc p ≡ suc q = own (suc p) (suc q) n here there in omega arith

others-few : (n : ℕ) (cached_nodes : List (Option CachedNode)) → HaveOwnPlaces cached_nodes → times n (other_numbers cached_nodes) ≤ 1
others-few n [] own = omega arith
others-few n (None ∷ cached_nodes) own = others-few n cached_nodes (own-rest None cached_nodes own)
others-few n (Some cached ∷ cached_nodes) own =
    let rest = others-few n cached_nodes (own-rest (Some cached) cached_nodes own) in
    elim (cases_eq cached.fields.number root) [
      | inl is ↦ rw (eq-eqb cached.fields.number root is) rest
      | inr off ↦ elim (cases_eq n cached.fields.number) [
        | inl same ↦
            let none = others-lack n cached_nodes (λ p there. let e : 0 ≡ suc p = own 0 (suc p) n (ap Some (sym same)) there in omega arith) in
            rw (ne_eqb cached.fields.number root off) (omega (arith, once-at n cached.fields.number same, none))
        | inr apart ↦ rw (ne_eqb cached.fields.number root off) (omega (arith, once-off n cached.fields.number apart, rest))
      ]
    ]

others-have : (n : ℕ) (cached_nodes : List (Option CachedNode)) (p : ℕ) → n ≢ root → node_number_at cached_nodes p ≡ Some n → 0 < times n (other_numbers cached_nodes)
others-have n [] p off there = absurd (some≢none n (sym there))
others-have n (None ∷ cached_nodes) zero off there = absurd (some≢none n (sym there))
others-have n (None ∷ cached_nodes) (suc p) off there = others-have n cached_nodes p off there
others-have n (Some cached ∷ cached_nodes) zero off there =
    let same : cached.fields.number ≡ n = same_Some cached.fields.number n there in
    rw (ne_eqb cached.fields.number root (λ e. off (sym same ∙ e))) (omega (arith, once-at n cached.fields.number (sym same)))
others-have n (Some cached ∷ cached_nodes) (suc p) off there =
    let rest = others-have n cached_nodes p off there in
    elim (cases_eq cached.fields.number root) [
      | inl is ↦ rw (eq-eqb cached.fields.number root is) rest
      | inr other ↦ rw (ne_eqb cached.fields.number root other) (omega (arith, rest))
    ]

-- a name is in a directory that has a number
pub led-number : (cached_nodes : List (Option CachedNode)) (p n : ℕ) → PlaceLeadsTo cached_nodes p n → (directory : ℕ) × (node_number_at cached_nodes p ≡ Some directory)
led-number cached_nodes p n leads = from (get_or cached_nodes p None) leads
  where
    from : (cached : Option CachedNode) → 0 < times n (led_by cached) → (directory : ℕ) × (node_number cached ≡ Some directory)
    from None some = absurd (omega arith)
    from (Some cached) some = (cached.fields.number, refl)

-- numbers that are apart have places of their own
pub own-places : (cached_nodes : List (Option CachedNode)) → AreNumbered cached_nodes → HaveOwnPlaces cached_nodes
own-places cached_nodes apart p q n here there = elim (cases_eq p q) [
  | inl same ↦ same
  | inr off ↦
      let a = numbered cached_nodes p n here in
      let b = numbered cached_nodes q n there in
      absurd (apart p q a.0 b.0 off a.1.0 b.1.0 (a.1.1 ∙ sym b.1.1))
]

module _ (cached_nodes : List (Option CachedNode)) (tree : IsOneTree cached_nodes) where
  pub no_root : (p : ℕ) → PlaceLeadsTo cached_nodes p root → ⊥
  no_root p leads = omega (arith, leads, led-one root cached_nodes p, tree.linked root, root-others cached_nodes)

  -- no name leads to no node
  pub no_other : (n p : ℕ) → HasNoNode cached_nodes n → PlaceLeadsTo cached_nodes p n → ⊥
  no_other n p lack leads = omega (arith, leads, led-one n cached_nodes p, tree.linked n, others-lack n cached_nodes lack)

  -- each other node has a name
  pub has_name : (n p : ℕ) → n ≢ root → node_number_at cached_nodes p ≡ Some n → (directory : ℕ) × HasChild cached_nodes directory n
  has_name n p off there =
      let found = led-where n cached_nodes (omega (arith, tree.linked n, others-have n cached_nodes p off there)) in
      let directory = led-number cached_nodes found.0 n found.1 in
      (directory.0, record { place = found.0; there = directory.1; leads = found.1 })

  module _ (own : HaveOwnPlaces cached_nodes) where
    pub one_place : (n p q : ℕ) → PlaceLeadsTo cached_nodes p n → PlaceLeadsTo cached_nodes q n → p ≡ q
    one_place n p q here there = elim (cases_eq p q) [
      | inl same ↦ same
      | inr off ↦ absurd (omega (arith, here, there, led-two n cached_nodes p q off, tree.linked n, others-few n cached_nodes own))
    ]

    pub one_name : (n a b : ℕ) → HasChild cached_nodes a n → HasChild cached_nodes b n → a ≡ b
    one_name n a b first second =
        let same = one_place n first.place second.place first.leads second.leads in
        same_Some a b (sym first.there ∙ ap (node_number_at cached_nodes) same ∙ second.there)
