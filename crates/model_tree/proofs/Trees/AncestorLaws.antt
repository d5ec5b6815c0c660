-- A node is below another exactly if it is reached from it.
use Rattle.std.proofs.Common.{ℕ, zero, suc, true, false, List, [], ◌∷◌, ◌≡◌, ◌≢◌, ◌+◌, ◌<◌, ◌≤◌, ◌&&◌, not, inl, inr, refl, sym, ap, ◌∙◌, subst, arith, eqb, eq-eqb, ne_eqb, lt-ltb, is_some, length}
use Rattle.std.specs.Prelude.{Option, Some, None, if◌then◌else◌}
use Rattle.std.specs.List.{list_any}
use Rattle.std.proofs.lemmas.Bool.{cases_eq, cases_Bool}
use Rattle.std.proofs.lemmas.Option.{same_Some}
use Rattle.model_tree.specs.Trees.Ancestors.{parent_of, ancestors_in, IsBelowIsReached}
use Rattle.model_tree.specs.Trees.Keyed.{Keyed, at, is_key, without, total, IsAbove}
use Rattle.model_tree.specs.Trees.Limits.{Limits}
use Rattle.model_tree.specs.Trees.Tree.{Tree, Node, DirEntry, root, names_of, names_at, names_of_node}
use Rattle.model_tree.specs.Trees.WellFormed.{one_if, links_from, links_to, links_owed, IsFrom, Start, Named, IsWellFormed}
use Rattle.model_tree.proofs.Trees.KeyedLaws.{at-first, at-rest, at-without_other, total-without, IsAbove-without, some≢none}
use Rattle.model_tree.proofs.Facts.BooleanLaws.{and_false, if_true, one_at_most}

-- a value in a map is worth at most the sum
pub total-some : {A : Type 0} (worth : A → ℕ) (entries : Keyed A) (key : ℕ) (value : A) → at key entries ≡ Some value → worth value ≤ total worth entries
total-some worth [] key value is = absurd (some≢none value (sym is))
total-some worth (entry ∷ rest) key value is = elim (cases_eq key entry.0) [
  | inl one ↦
      let same : entry.1 ≡ value = same_Some entry.1 value (sym (at-first entry.0 key entry.1 rest one) ∙ is) in
      let worths : worth entry.1 ≡ worth value = ap worth same in
      omega arith
  | inr apart ↦
      let others : worth value ≤ total worth rest = total-some worth rest key value (sym (at-rest entry.0 key entry.1 rest apart) ∙ is) in
      omega arith
]

-- the directory that has the only name is found
parent_found : (tree : Tree) (number place : ℕ) (node : Node) → links_to tree number ≤ 1 → at place tree ≡ Some node → 1 ≤ links_from number node
    → parent_of tree number ≡ place
parent_found [] number place node most is leads = absurd (some≢none node (sym is))
parent_found (entry ∷ rest) number place node most is leads = elim (cases_eq place entry.0) [
  | inl one ↦
      let same : entry.1 ≡ node = same_Some entry.1 node (sym (at-first entry.0 place entry.1 rest one) ∙ is) in
      let worths : links_from number entry.1 ≡ links_from number node = ap (links_from number) same in
      if_true _ entry.0 (parent_of rest number) (lt-ltb 0 (links_from number entry.1) (omega arith)) ∙ sym one
  | inr apart ↦
      let there : at place rest ≡ Some node = sym (at-rest entry.0 place entry.1 rest apart) ∙ is in
      let others : links_from number node ≤ links_to rest number = total-some (links_from number) rest place node there in
      let sum : links_from number entry.1 + links_to rest number ≤ 1 = most in
      let none : links_from number entry.1 ≡ 0 = omega arith in
      rw none (parent_found rest number place node (omega arith) there leads)
]

-- How deep a node is
IsDeep : Tree → (depth number : ℕ) → Type 0
IsDeep tree zero number = number ≡ root
IsDeep tree (suc depth) number = (number ≢ root) × IsDeep tree depth (parent_of tree number)

one_depth : (tree : Tree) (first second number : ℕ) → IsDeep tree first number → IsDeep tree second number → first ≡ second
unfolding IsDeep
one_depth tree zero zero number a b = refl
one_depth tree zero (suc second) number a b = absurd (b.0 a)
one_depth tree (suc first) zero number a b = absurd (a.0 b)
one_depth tree (suc first) (suc second) number a b = ap suc (one_depth tree first second (parent_of tree number) a.1 b.1)

length_total : {A : Type 0} (entries : Keyed A) → length entries ≡ total (λ value. 1) entries
length_total [] = refl
length_total (entry ∷ rest) = let others = length_total rest in omega arith

-- if there is a node at each depth below `depth`, there are at least `depth` nodes
crowd : (tree : Tree) (nodes : Keyed Node) (least : ℕ) → IsAbove least nodes → (depth : ℕ)
    → ((of : ℕ) → of < depth → (number : ℕ) × IsDeep tree of number × (is_key number nodes ≡ true)) → depth ≤ length nodes
crowd tree nodes least above zero each = omega arith
crowd tree nodes least above (suc depth) each =
    let last = each depth (omega arith) in
    let others : depth ≤ length (without nodes last.0) = crowd tree (without nodes last.0) least (IsAbove-without nodes last.0 least above) depth
    (λ of low. let one = each of (omega (arith, low)) in
    let apart : one.0 ≢ last.0 = λ same.
    let even : of ≡ depth = one_depth tree of depth last.0 (subst (IsDeep tree of) same one.1) last.1 in absurd (omega (arith, low)) in
    (one.0, one.1, ap is_some (at-without_other nodes last.0 one.0 apart) ∙ one.2)) in
    let gone : length (without nodes last.0) + 1 ≡ length nodes = removed last.0 (at last.0 nodes) refl last.2 in
    omega arith
  where
    removed : (key : ℕ) (o : Option Node) → at key nodes ≡ o → is_some (at key nodes) ≡ true → length (without nodes key) + 1 ≡ length nodes
    removed key None is some = absurd (cc)
    removed key (Some node) is some =
        let sum : total (λ (n : Node). 1) (without nodes key) + 1 ≡ total (λ (n : Node). 1) nodes
        = rw is at (total-without (λ (n : Node). 1) nodes key least above) in
        let before = length_total nodes in
        let behind = length_total (without nodes key) in
        omega arith

module _ (limits : Limits) (tree : Tree) (well : IsWellFormed limits tree) where
  -- what a name leads to: no root, and its parent is the directory
  leads : (place stamp : ℕ) (entry : DirEntry) → at stamp (names_at tree place) ≡ Some entry
      → (is_key place tree ≡ true) × (parent_of tree entry.number ≡ place) × (entry.number ≢ root)
  leads place stamp entry has = with_node (at place tree) refl has
    where
      with_node : (o : Option Node) → at place tree ≡ o → at stamp (names_of_node o) ≡ Some entry
          → (is_key place tree ≡ true) × (parent_of tree entry.number ≡ place) × (entry.number ≢ root)
      with_node None is named = absurd (some≢none entry (sym named))
      with_node (Some node) is named =
          let one : one_if (eqb entry.number entry.number) ≡ 1 = ap one_if (eq-eqb entry.number entry.number refl) in
          let here : one_if (eqb entry.number entry.number) ≤ links_from entry.number node
          = total-some (λ (e : DirEntry). one_if (eqb e.number entry.number)) (names_of node.content) stamp entry named in
          let whole : links_from entry.number node ≤ links_to tree entry.number = total-some (links_from entry.number) tree place node is in
          let owed : links_to tree entry.number ≡ links_owed tree entry.number = well.linked entry.number in
          let most : links_owed tree entry.number ≤ 1 = one_at_most (is_key entry.number tree && not (eqb entry.number root)) in
          let no_root : entry.number ≢ root = λ same.
          let none : links_owed tree entry.number ≡ 0 = ap (links_owed tree) same ∙ ap one_if (and_false (is_key root tree)) in absurd (omega arith) in
          (ap is_some is, parent_found tree entry.number place node (omega arith) is (omega arith), no_root)

  -- the depth of what is reached, with a node at each lower depth
  Levels : (number : ℕ) → Type 0
  Levels number = (depth : ℕ) × IsDeep tree depth number
      × ((of : ℕ) → of ≤ depth → (other : ℕ) × IsDeep tree of other × (is_key other tree ≡ true))

  levels : (number : ℕ) → IsFrom tree root number → is_key number tree ≡ true → Levels number
  unfolding Levels IsDeep
  levels _ Start key = (0, refl, λ of low. (root, subst (λ d. IsDeep tree d root) (let none : 0 ≡ of = omega (arith, low) in none) refl, key))
  levels _ (Named place stamp entry from has) key =
      let led = leads place stamp entry has in
      let upper = levels place from led.0 in
      let deep : IsDeep tree (suc upper.0) entry.number = (led.2, subst (IsDeep tree upper.0) (sym led.1) upper.1) in (
        suc upper.0,
        deep,
        λ of low. elim (cases_eq of (suc upper.0)) [
          | inl one ↦ (entry.number, subst (λ d. IsDeep tree d entry.number) (sym one) deep, key)
          | inr apart ↦ upper.2 of (omega (arith, low))
        ],
      )

  deep_enough : (number : ℕ) → (key : is_key number tree ≡ true) → (depth : ℕ) × IsDeep tree depth number × (depth < length tree)
  unfolding Levels
  deep_enough number key =
      let all = levels number (well.reached number key) key in
      let room : suc all.0 ≤ length tree = crowd tree tree 0 well.numbered (suc all.0) (λ of low. all.2 of (omega (arith, low))) in
      (all.0, all.1, omega arith)

  -- The walk upwards

  above_is_found : (steps depth upper number : ℕ) → depth < steps → IsDeep tree depth number → IsFrom tree upper number
      → list_any (λ of. eqb of upper) (ancestors_in steps tree number) ≡ true
  unfolding IsDeep
  above_is_found zero depth upper number low deep from = absurd (omega (arith, low))
  above_is_found (suc steps) depth upper _ low deep Start = rw (eq-eqb upper upper refl) refl
  above_is_found (suc steps) zero upper _ low deep (Named place stamp entry from has) = absurd ((leads place stamp entry has).2 deep)
  above_is_found (suc steps) (suc depth) upper _ low deep (Named place stamp entry from has) =
      let led = leads place stamp entry has in
      let others : list_any (λ of. eqb of upper) (ancestors_in steps tree (parent_of tree entry.number)) ≡ true
      = subst (λ n. list_any (λ of. eqb of upper) (ancestors_in steps tree n) ≡ true) (sym led.1)
      (above_is_found steps depth upper place (omega (arith, low)) (subst (IsDeep tree depth) led.1 deep.1) from) in
      any_behind entry.number upper (ancestors_in steps tree (parent_of tree entry.number)) (ne_eqb entry.number root led.2) others
    where
      any_behind : (number upper : ℕ) (rest : List ℕ) → eqb number root ≡ false
          → list_any (λ of. eqb of upper) rest ≡ true
          → list_any (λ of. eqb of upper) (number ∷ (if eqb number root then [] else rest)) ≡ true
      any_behind number upper rest no_root is = elim (cases_Bool (eqb number upper)) [
        | inl here ↦ rw here refl
        | inr elsewhere ↦ rw (elsewhere, no_root) is
      ]

  found_is_above : (steps upper number : ℕ) → IsFrom tree root number
      → list_any (λ of. eqb of upper) (ancestors_in steps tree number) ≡ true → IsFrom tree upper number
  found_is_above zero upper number from is = absurd (cc)
  found_is_above (suc steps) upper number from is = elim (cases_eq number upper) [
    | inl one ↦ subst (IsFrom tree upper) (sym one) Start
    | inr apart ↦ behind steps upper number (λ place. found_is_above steps upper place) from (rw (ne_eqb number upper apart) at is)
  ]
    where
      behind : (steps upper number : ℕ) → ((place : ℕ) → IsFrom tree root place
          → list_any (λ of. eqb of upper) (ancestors_in steps tree place) ≡ true → IsFrom tree upper place) → IsFrom tree root number
          → list_any (λ of. eqb of upper) (if eqb number root then [] else ancestors_in steps tree (parent_of tree number)) ≡ true → IsFrom tree upper number
      behind steps upper _ again Start is = absurd (cc)
      behind steps upper _ again (Named place stamp entry from has) is =
          let led = leads place stamp entry has in
          Named place stamp entry (again place from
          (subst (λ n. list_any (λ of. eqb of upper) (ancestors_in steps tree n) ≡ true) led.1 (rw (ne_eqb entry.number root led.2) at is))) has

pub below_is_reached : IsBelowIsReached
below_is_reached limits tree well upper number key =
    let deep = deep_enough limits tree well number key in (
      found_is_above limits tree well (length tree) upper number (well.reached number key),
      above_is_found limits tree well (length tree) deep.0 upper number deep.2 deep.1,
    )
