-- A walk that has visited all that it met, or is stuck, decides whether the nodes make one tree.
use Rattle.std.proofs.Common.{◌≡◌, ◌≢◌, ◌≤◌, ◌<◌, ◌+◌, if◌then◌else◌, true≢false, ℕ, suc, Bool, true, false, List, [], ◌∷◌, Option, Some, None, length, take, get_or, refl, sym, ap, subst, ◌∙◌, arith, inl, inr, eqb, eq-eqb}
use Rattle.std.proofs.lemmas.Bool.{cases_eq, eqb-true}
use Rattle.std.proofs.lemmas.List.{get_or-map, length-map, get_or_past}
use Rattle.node_table.specs.Tables.{node_number, node_number_at, HaveOwnPlaces, count_of_all}
use Rattle.node_table.proofs.TableLaws.{within-numbered}
use Rattle.layout.specs.CachedNodes.{CachedNode}
use Rattle.layout.specs.Marks.{once_if, times}
use Rattle.layout.specs.SumLaws.{entry_numbers, other_numbers, numbers_of}
use Rattle.layout.proofs.NumberLaws.{place-of, once-here, once-off, times-append, times-at}
use Rattle.model_tree.specs.Trees.Tree.{root}
use Rattle.tree_check.specs.Trees.{led_at, led_by, IsReached, Root, Named, IsOneTree}
use Rattle.tree_check.specs.Walks.{number_or, number_in, numbers_at, led_from, IsWalk, IsStuck}
use Rattle.tree_check.proofs.Sums.{sum_below, sum_of, many, sum-same, sum-zero, sum-ones, sum-each, AreBelow, sum_of-below, sum_of-le, sum_of-all, length-sum, times-split, sum_of-at}

once-le : (b : Bool) → once_if b ≤ 1
once-le true = omega arith
once-le false = omega arith

-- One place

-- whether the node there has the number, and whether there is one
abbrev is_it : (n : ℕ) → Option ℕ → ℕ
is_it n None = 0
is_it n (Some m) = once_if (eqb n m)

abbrev is_node : Option ℕ → ℕ
is_node None = 0
is_node (Some m) = 1

is_it-le : (n : ℕ) (o : Option ℕ) → is_it n o ≤ 1
is_it-le n None = omega arith
is_it-le n (Some m) = once-le (eqb n m)

is_it-some : (n : ℕ) (o : Option ℕ) → 0 < is_it n o → o ≡ Some n
is_it-some n None h = absurd (omega arith)
is_it-some n (Some m) h = elim (cases_eq n m) [
  | inl same ↦ ap Some (sym same)
  | inr off ↦ absurd (omega (arith, once-off n m off))
]

is_it-none : (n : ℕ) (o : Option ℕ) → o ≢ Some n → is_it n o ≡ 0
is_it-none n None other = refl
is_it-none n (Some m) other = once-off n m (λ same. other (ap Some (sym same)))

is_node-some : (o : Option ℕ) → 0 < is_node o → o ≡ Some (number_or o)
is_node-some None h = absurd (omega arith)
is_node-some (Some m) h = refl

is_node-le : (o : Option ℕ) → is_node o ≤ 1
is_node-le None = omega arith
is_node-le (Some m) = omega arith

-- Sums over all places

entries-sum : (n : ℕ) (cached_nodes : List (Option CachedNode)) → times n (entry_numbers cached_nodes) ≡ sum_below (λ p. times n (led_at cached_nodes p)) (length cached_nodes)
entries-sum n [] = refl
entries-sum n (None ∷ cached_nodes) = omega (arith, entries-sum n cached_nodes)
entries-sum n (Some cached ∷ cached_nodes) =
    omega (arith, times-append n (numbers_of cached.names) (entry_numbers cached_nodes), entries-sum n cached_nodes)

others-step : (n number : ℕ) (rest : List ℕ) (b : Bool) → eqb number root ≡ b → n ≢ root → times n (if b then rest else number ∷ rest) ≡ once_if (eqb n number) + times n rest
others-step n number rest true e off =
    let same : number ≡ root = eqb-true number root e in
    omega (arith, once-off n number (λ h. off (h ∙ same)))
others-step n number rest false e off = refl

others-sum : (n : ℕ) (cached_nodes : List (Option CachedNode)) → n ≢ root → times n (other_numbers cached_nodes) ≡ sum_below (λ p. is_it n (node_number_at cached_nodes p)) (length cached_nodes)
others-sum n [] off = refl
others-sum n (None ∷ cached_nodes) off = omega (arith, others-sum n cached_nodes off)
others-sum n (Some cached ∷ cached_nodes) off =
    omega (arith, others-step n cached.fields.number (other_numbers cached_nodes) (eqb cached.fields.number root) refl off, others-sum n cached_nodes off)

root-step : (number : ℕ) (rest : List ℕ) (b : Bool) → eqb number root ≡ b → times root (if b then rest else number ∷ rest) ≡ times root rest
root-step number rest true e = refl
root-step number rest false e =
    omega (arith, once-off root number (λ same. true≢false (sym (eq-eqb number root (sym same)) ∙ e)))

pub root-others : (cached_nodes : List (Option CachedNode)) → times root (other_numbers cached_nodes) ≡ 0
root-others [] = refl
root-others (None ∷ cached_nodes) = root-others cached_nodes
root-others (Some cached ∷ cached_nodes) = root-step cached.fields.number (other_numbers cached_nodes) (eqb cached.fields.number root) refl ∙ root-others cached_nodes

count-sum : (cached_nodes : List (Option CachedNode)) → count_of_all cached_nodes ≡ sum_below (λ p. is_node (node_number_at cached_nodes p)) (length cached_nodes)
count-sum [] = refl
count-sum (None ∷ cached_nodes) = omega (arith, count-sum cached_nodes)
count-sum (Some cached ∷ cached_nodes) = omega (arith, count-sum cached_nodes)

own-rest : (cached : Option CachedNode) (cached_nodes : List (Option CachedNode)) → HaveOwnPlaces (cached ∷ cached_nodes) → HaveOwnPlaces cached_nodes
own-rest cached cached_nodes own p q n here there = let same : suc p ≡ suc q = own (suc p) (suc q) n here there in omega arith

-- at most one node has a number
own-sum : (n : ℕ) (cached_nodes : List (Option CachedNode)) → HaveOwnPlaces cached_nodes → sum_below (λ p. is_it n (node_number_at cached_nodes p)) (length cached_nodes) ≤ 1
own-sum n [] own = omega arith
own-sum n (cached ∷ cached_nodes) own = elim (cases_eq (is_it n (node_number cached)) 0) [
  | inl none ↦ omega (arith, none, own-sum n cached_nodes (own-rest cached cached_nodes own))
  | inr some ↦
      let here : node_number cached ≡ Some n = is_it-some n (node_number cached) (omega arith) in
      omega (
        arith,
        is_it-le n (node_number cached),
        sum-zero (λ p. is_it n (node_number_at cached_nodes p)) (length cached_nodes) (λ p h. is_it-none n (node_number_at cached_nodes p) (λ there. let same : 0 ≡ suc p = own 0 (suc p) n here there in omega arith)),
      )
]

node-there : (cached : Option CachedNode) (n : ℕ) → 0 < times n (led_by cached) → node_number cached ≡ Some (number_or (node_number cached))
node-there None n some = absurd (omega arith)
node-there (Some cached) n some = refl

-- Sums over the places that were met

led-sum : (n : ℕ) (cached_nodes : List (Option CachedNode)) (ps : List ℕ) → times n (led_from cached_nodes ps) ≡ sum_of (λ p. times n (led_at cached_nodes p)) ps
led-sum n cached_nodes [] = refl
led-sum n cached_nodes (p ∷ ps) = omega (arith, times-append n (led_at cached_nodes p) (led_from cached_nodes ps), led-sum n cached_nodes ps)

numbers-sum : (n : ℕ) (cached_nodes : List (Option CachedNode)) (ps : List ℕ) → ((i : ℕ) → i < length ps → node_number_at cached_nodes (get_or ps i 0) ≡ Some (number_in cached_nodes (get_or ps i 0)))
    → times n (numbers_at cached_nodes ps) ≡ sum_of (λ p. is_it n (node_number_at cached_nodes p)) ps
numbers-sum n cached_nodes [] there = refl
numbers-sum n cached_nodes (p ∷ ps) there =
    let here : is_it n (node_number_at cached_nodes p) ≡ once_if (eqb n (number_in cached_nodes p)) = ap (is_it n) (there 0 (omega arith)) in
    omega (arith, here, numbers-sum n cached_nodes ps (λ i h. there (suc i) (omega arith)))

module _ (cached_nodes : List (Option CachedNode)) (seen : List Bool) (order : List ℕ) (walk : IsWalk cached_nodes seen order) where
  few : (p : ℕ) → times p order ≤ 1
  few p = rw (walk.once p) (once-le (get_or seen p false))

  far : AreBelow (length cached_nodes) order
  far p h = walk.once p ∙ ap once_if (get_or_past seen p false (omega (arith, walk.marks)))

  pub order-fits : length order ≤ length cached_nodes
  order-fits = omega (arith, length-sum order, sum_of-le (λ p. 1) (length cached_nodes) order far few, sum-ones (length cached_nodes))

  -- a place that was met has a node
  met-node : (p : ℕ) → 0 < times p order → node_number_at cached_nodes p ≡ Some (number_in cached_nodes p)
  met-node p h =
      let found = place-of p order h in
      subst (λ q. node_number_at cached_nodes q ≡ Some (number_in cached_nodes q)) found.1.1 (walk.there found.0 found.1.0)

  -- the place of a number that was met
  met-place : (n : ℕ) → 0 < times n (numbers_at cached_nodes order) → (p : ℕ) × ((0 < times p order) × (node_number_at cached_nodes p ≡ Some n))
  met-place n h =
      let found = place-of n (numbers_at cached_nodes order) h in
      let inside : found.0 < length order = rw (← length-map order (number_in cached_nodes)) found.1.0 in
      let p = get_or order found.0 0 in
      let is : number_in cached_nodes p ≡ n = sym (get_or-map (number_in cached_nodes) order found.0 0 0 inside) ∙ found.1.1 in
      (p, (times-at order found.0 0 inside, walk.there found.0 inside ∙ ap Some is))

  node-count : (p : ℕ) → p < length cached_nodes → many (times p order) 1 ≤ is_node (node_number_at cached_nodes p)
  node-count p h = elim (cases_eq (times p order) 0) [
    | inl none ↦ rw none (omega arith)
    | inr some ↦
        let one : times p order ≡ 1 = omega (arith, few p) in
        let there = met-node p (omega arith) in
        rw one (rw there (omega arith))
  ]

  module _ (own : HaveOwnPlaces cached_nodes) (met : numbers_at cached_nodes order ≡ root ∷ led_from cached_nodes order) where
    met-times : (n : ℕ) → times n (numbers_at cached_nodes order) ≡ once_if (eqb n root) + times n (led_from cached_nodes order)
    met-times n = ap (times n) met

    -- all nodes were met
    module _ (all : length order ≡ count_of_all cached_nodes) where
      all-met : (p n : ℕ) → node_number_at cached_nodes p ≡ Some n → 0 < times p order
      all-met p n there =
          let inside = within-numbered cached_nodes p n there in
          let total : sum_below (λ q. is_node (node_number_at cached_nodes q)) (length cached_nodes) ≤ sum_below (λ q. many (times q order) 1) (length cached_nodes) =
          omega (arith, count-sum cached_nodes, all, length-sum order, sum_of-below (λ q. 1) (length cached_nodes) order far) in
          let le = sum-each (λ q. many (times q order) 1) (λ q. is_node (node_number_at cached_nodes q)) (length cached_nodes) node-count total p inside in
          let is : is_node (node_number_at cached_nodes p) ≡ 1 = ap is_node there in
          elim (cases_eq (times p order) 0) [
            | inl none ↦ absurd (let zero_of : many (times p order) 1 ≡ 0 = ap (λ t. many t 1) none in omega (arith, le, is, zero_of))
            | inr some ↦ omega arith
          ]

      led-all : (n : ℕ) → times n (led_from cached_nodes order) ≡ times n (entry_numbers cached_nodes)
      led-all n =
          led-sum n cached_nodes order
          ∙ (sum_of-all (λ p. times n (led_at cached_nodes p)) (length cached_nodes) order far few
          (λ p h some. all-met p (number_in cached_nodes p) (node-there (get_or cached_nodes p None) n some))
          ∙ sym (entries-sum n cached_nodes))

      numbers-all : (n : ℕ) → times n (numbers_at cached_nodes order) ≡ sum_below (λ p. is_it n (node_number_at cached_nodes p)) (length cached_nodes)
      numbers-all n =
          numbers-sum n cached_nodes order walk.there
          ∙ sum_of-all (λ p. is_it n (node_number_at cached_nodes p)) (length cached_nodes) order far few (λ p h some. all-met p n (is_it-some n (node_number_at cached_nodes p) some))

      linked : (n : ℕ) → times n (entry_numbers cached_nodes) ≡ times n (other_numbers cached_nodes)
      linked n = elim (cases_eq n root) [
        | inl same ↦
            let total : once_if (eqb n root) + times n (entry_numbers cached_nodes) ≤ 1 = omega (arith, met-times n, led-all n, numbers-all n, own-sum n cached_nodes own) in
            let one : once_if (eqb n root) ≡ 1 = rw (eq-eqb n root same) refl in
            let none : times n (other_numbers cached_nodes) ≡ 0 = ap (λ m. times m (other_numbers cached_nodes)) same ∙ root-others cached_nodes in
            omega arith
        | inr off ↦ omega (arith, met-times n, led-all n, numbers-all n, others-sum n cached_nodes off, once-off n root off)
      ]

      reached : (p n : ℕ) → node_number_at cached_nodes p ≡ Some n → IsReached cached_nodes n
      reached p n there =
          let found = place-of p order (all-met p n there) in
          let is : number_in cached_nodes (get_or order found.0 0) ≡ n = ap (number_in cached_nodes) found.1.1 ∙ ap number_or there in
          subst (IsReached cached_nodes) is (walk.reached found.0 found.1.0)

      pub is-one-tree : IsOneTree cached_nodes
      is-one-tree =
          let first = met-place root (omega (arith, met-times root, once-here root)) in
          record { rooted = (first.0, first.1.1); linked = linked; reached = reached }

    -- each node that is reached was met
    closed : (n : ℕ) → IsReached cached_nodes n → 0 < times n (numbers_at cached_nodes order)
    closed n Root = omega (arith, met-times root, once-here root)
    closed n (Named place number i there reach within) =
        let was = met-place number (closed number reach) in
        let same : was.0 ≡ place = own was.0 place number was.1.1 there in
        let at = place-of was.0 order was.1.0 in
        let m = get_or (led_at cached_nodes place) i 0 in
        let has : 0 < times m (led_at cached_nodes place) = times-at (led_at cached_nodes place) i 0 within in
        let below = sum_of-at (λ p. times m (led_at cached_nodes p)) order at.0 at.1.0 in
        let here : times m (led_at cached_nodes (get_or order at.0 0)) ≡ times m (led_at cached_nodes place) = ap (λ p. times m (led_at cached_nodes p)) (at.1.1 ∙ same) in
        omega (arith, met-times m, led-sum m cached_nodes order, below, here, has)

    pub all-counted : IsOneTree cached_nodes → length order ≡ count_of_all cached_nodes
    all-counted tree =
        length-sum order
        ∙ (sum_of-below (λ p. 1) (length cached_nodes) order far
        ∙ (sum-same (λ p. many (times p order) 1) (λ p. is_node (node_number_at cached_nodes p)) (length cached_nodes) (λ p h. elim (cases_eq (is_node (node_number_at cached_nodes p)) 0) [
          | inl none ↦ omega (arith, none, node-count p h)
          | inr some ↦
              let there = is_node-some (node_number_at cached_nodes p) (omega arith) in
              let found = met-place (number_in cached_nodes p) (closed (number_in cached_nodes p) (tree.reached p (number_in cached_nodes p) there)) in
              let same : found.0 ≡ p = own found.0 p (number_in cached_nodes p) found.1.1 there in
              let has : 0 < times p order = subst (λ q. 0 < times q order) same found.1.0 in
              let one : times p order ≡ 1 = omega (arith, few p) in
              let node : many (times p order) 1 ≡ 1 = ap (λ t. many t 1) one in
              omega (arith, node, is_node-le (node_number_at cached_nodes p))
        ])
        ∙ sym (count-sum cached_nodes)))

  -- a walk that is stuck at the next place
  pub stuck-is-none : HaveOwnPlaces cached_nodes → (i : ℕ) → i < length order → numbers_at cached_nodes order ≡ root ∷ led_from cached_nodes (take i order)
      → IsStuck cached_nodes order (get_or order i 0) → IsOneTree cached_nodes → ⊥
  stuck-is-none own i inside met stuck tree =
      let place = get_or order i 0 in
      let n = get_or (led_at cached_nodes place) stuck.i 0 in
      let prefix = times n (take stuck.i (led_at cached_nodes place)) in
      let own_names = times-split n (led_at cached_nodes place) stuck.i 0 stuck.within in
      let ps = place ∷ take i order in
      let each : (p : ℕ) → times p ps ≤ times p order = λ p. omega (arith, times-split p order i 0 inside) in
      let total = sum_of-le (λ p. times n (led_at cached_nodes p)) (length cached_nodes) ps (λ p h. omega (arith, each p, far p h)) (λ p. omega (arith, each p, few p)) in
      let entries : times n (led_from cached_nodes (take i order)) + prefix + 1 ≤ times n (entry_numbers cached_nodes) =
      omega (arith, own_names, once-here n, total, led-sum n cached_nodes (take i order), entries-sum n cached_nodes) in
      elim (cases_eq n root) [
        | inl same ↦
            let none : times n (other_numbers cached_nodes) ≡ 0 = ap (λ m. times m (other_numbers cached_nodes)) same ∙ root-others cached_nodes in
            omega (arith, tree.linked n)
        | inr off ↦ elim stuck.missing [
          | inl has_not ↦
              omega (
                arith,
                tree.linked n,
                others-sum n cached_nodes off,
                sum-zero (λ p. is_it n (node_number_at cached_nodes p)) (length cached_nodes) (λ p h. is_it-none n (node_number_at cached_nodes p) (has_not p)),
              )
          | inr some ↦
              omega (
                arith,
                some,
                times-append n (numbers_at cached_nodes order) (take stuck.i (led_at cached_nodes place)),
                ap (times n) met,
                once-off n root off,
                tree.linked n,
                others-sum n cached_nodes off,
                own-sum n cached_nodes own,
              )
        ]
      ]
