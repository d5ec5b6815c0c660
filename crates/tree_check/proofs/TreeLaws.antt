-- What is decided of cached nodes holds of the tree that they represent.
use Rattle.std.proofs.Common.{◌≡◌, ◌≢◌, ◌≤◌, ◌<◌, ◌↔◌, ℕ, zero, suc, List, [], ◌∷◌, Option, Some, None, length, get_or, refl, sym, ap, subst, ◌∙◌, arith, inl, inr, eqb, eq-eqb, ne_eqb, IsTrue, true≢false}
use Rattle.std.proofs.lemmas.Bool.{cases_eq}
use Rattle.std.proofs.lemmas.List.{get_or-map, length-map}
use Rattle.std.specs.Prelude.{is_some}
use Rattle.std.proofs.lemmas.Option.{same_Some, none-some}
use Rattle.disk.specs.Moments.{Image}
use Rattle.model_tree.specs.declared.node.NodeKind.{NodeKind}
use Rattle.model_tree.specs.declared.node.NodeKind.TheVariants as kind
use Rattle.model_tree.specs.Trees.Keyed.{at, here_or, is_key}
use Rattle.model_tree.specs.Trees.Tree.{Tree, Node, DirEntry, root, names_of, names_of_node, names_at}
use Rattle.model_tree.specs.Trees.WellFormed.{one_if, is_stamped, stamped_in, IsFrom, Start, Named}
use Rattle.directory.specs.Records.{Record, NamesStamped}
use Rattle.directory.proofs.ByStamp.{at-by_stamp}
use Rattle.node_table.specs.Tables.{node_number, node_number_at}
use Rattle.layout.specs.CachedNodes.{CachedNode, tree_of, node_of, content_of}
use Rattle.layout.specs.CachedNodeLaws.{FindsCached}
use Rattle.layout.specs.Known.{HasContent, IsCached, AreCached}
use Rattle.layout.specs.Marks.{once_if, times}
use Rattle.layout.specs.SumLaws.{sum_over}
use Rattle.layout.proofs.Answering.{tree_answers}
use Rattle.layout.proofs.ChargeLaws.{stamped-rest}
use Rattle.layout.proofs.Knowing.{AreEach, each_cached, laid_are_cached_nodes}
use Rattle.layout.proofs.Linking.{known_link}
use Rattle.layout.proofs.Summing.{known_sum}
use Rattle.layout.proofs.NumberLaws.{place-of, times-append}
use Rattle.tree_check.specs.ShapeLaws.{IsLinked, EachWalk, EachStamp}
use Rattle.tree_check.specs.Stamps.{stamps_of, entry_stamps, AreStampsApart}
use Rattle.tree_check.specs.Trees.{led_at, led_by, IsOneTree, IsReached}
use Rattle.tree_check.specs.Trees as shape

-- Names of one directory by their stamps

-- the entry at an index
at-index : (names : List Record) (key : ℕ) (entry : DirEntry) → at key names ≡ Some entry → (i : ℕ) × ((i < length names) × ((d : Record) → (get_or names i d).1 ≡ entry))
at-index [] key entry e = absurd (none-some entry e)
  where
    none-some : (entry : DirEntry) → (let none : Option DirEntry = None in none ≡ Some entry) → ⊥
    none-some entry e = cc
at-index (x ∷ names) key entry e = elim (cases_eq key x.0) [
  | inl same ↦
      let here : at key (x ∷ names) ≡ Some x.1 = ap (λ b. here_or b x.1 (at key names)) (eq-eqb key x.0 same) in
      (0, (omega arith, λ d. some-one x.1 entry (sym here ∙ e)))
  | inr off ↦
      let rest : at key (x ∷ names) ≡ at key names = ap (λ b. here_or b x.1 (at key names)) (ne_eqb key x.0 off) in
      let found = at-index names key entry (sym rest ∙ e) in
      (suc found.0, (omega (arith, found.1.0), found.1.1))
]
  where
    some-one : (a b : DirEntry) → (let one : Option DirEntry = Some a in one ≡ Some b) → a ≡ b
    some-one a b e = cc

-- each entry is found by its stamp
pub at-stamp : (names : List Record) → NamesStamped names → (i : ℕ) (d : Record) → i < length names → at (get_or names i d).0 names ≡ Some (get_or names i d).1
at-stamp [] stamped i d h = absurd (omega arith)
at-stamp (x ∷ names) stamped zero d h = ap (λ b. here_or b x.1 (at x.0 names)) (eq-eqb x.0 x.0 refl)
at-stamp (x ∷ names) stamped (suc i) d h =
    ap (λ b. here_or b x.1 (at (get_or names i d).0 names)) (ne_eqb (get_or names i d).0 x.0 (λ same. stamped.apart 0 (suc i) d (omega arith) h (sym same)))
    ∙ at-stamp names (stamped-rest x names stamped) i d (omega arith)

key-times : (key : ℕ) (names : List Record) → NamesStamped names → one_if (is_some (at key names)) ≡ times key (stamps_of names)
key-times key [] stamped = refl
key-times key (x ∷ names) stamped = elim (cases_eq key x.0) [
  | inl same ↦
      let here : at key (x ∷ names) ≡ Some x.1 = ap (λ b. here_or b x.1 (at key names)) (eq-eqb key x.0 same) in
      let one : once_if (eqb key x.0) ≡ 1 = rw (eq-eqb key x.0 same) refl in
      let is : one_if (is_some (at key (x ∷ names))) ≡ 1 = ap (λ o. one_if (is_some o)) here in
      elim (cases_eq (times key (stamps_of names)) 0) [
        | inl none ↦ omega (arith, is)
        | inr some ↦
            let found = place-of key (stamps_of names) (omega arith) in
            let inside : found.0 < length names = rw (← length-map names (λ (entry : Record). entry.0)) found.1.0 in
            let there : (get_or names found.0 x).0 ≡ key = sym (get_or-map (λ (entry : Record). entry.0) names found.0 x 0 inside) ∙ found.1.1 in
            absurd (stamped.apart 0 (suc found.0) x (omega arith) (omega arith) (sym same ∙ sym there))
      ]
  | inr off ↦
      let rest : at key (x ∷ names) ≡ at key names = ap (λ b. here_or b x.1 (at key names)) (ne_eqb key x.0 off) in
      let none : once_if (eqb key x.0) ≡ 0 = rw (ne_eqb key x.0 off) refl in
      let is : one_if (is_some (at key (x ∷ names))) ≡ one_if (is_some (at key names)) = ap (λ o. one_if (is_some o)) rest in
      omega (arith, is, key-times key names (stamped-rest x names stamped))
]

-- Cached nodes by their numbers

pub data Finds (cached_nodes : List (Option CachedNode)) (number : ℕ) : Type 0 where
  There : (place : ℕ) (cached_node : CachedNode) → get_or cached_nodes place None ≡ Some cached_node → cached_node.fields.number ≡ number → Finds cached_nodes number
  Nowhere : ((place : ℕ) (cached_node : CachedNode) → get_or cached_nodes place None ≡ Some cached_node → cached_node.fields.number ≢ number) → Finds cached_nodes number

abbrev HaveNone : List (Option CachedNode) → ℕ → Type 0
HaveNone cached_nodes number = (place : ℕ) (cached_node : CachedNode) → get_or cached_nodes place None ≡ Some cached_node → cached_node.fields.number ≢ number

none-prefix : (cached_nodes : List (Option CachedNode)) (number : ℕ) → HaveNone cached_nodes number → HaveNone (None ∷ cached_nodes) number
none-prefix cached_nodes number none zero cached_node e = absurd (none-some cached_node e)
none-prefix cached_nodes number none (suc place) cached_node e = none place cached_node e

some-prefix : (one : CachedNode) (cached_nodes : List (Option CachedNode)) (number : ℕ) → one.fields.number ≢ number → HaveNone cached_nodes number → HaveNone (Some one ∷ cached_nodes) number
some-prefix one cached_nodes number off none zero cached_node e = λ same. off (ap (λ (c : CachedNode). c.fields.number) (same_Some one cached_node e) ∙ same)
some-prefix one cached_nodes number off none (suc place) cached_node e = none place cached_node e

pub find : (cached_nodes : List (Option CachedNode)) (number : ℕ) → Finds cached_nodes number
find [] number = Nowhere (λ place cached_node e. absurd (none-some cached_node e))
find (None ∷ cached_nodes) number = elim (find cached_nodes number) [
  | There place cached_node e is ↦ There (suc place) cached_node e is
  | Nowhere none ↦ Nowhere (none-prefix cached_nodes number none)
]
find (Some one ∷ cached_nodes) number = elim (cases_eq one.fields.number number) [
  | inl same ↦ There 0 one refl same
  | inr off ↦ elim (find cached_nodes number) [
    | There place cached_node e is ↦ There (suc place) cached_node e is
    | Nowhere none ↦ Nowhere (some-prefix one cached_nodes number off none)
  ]
]

pub numbered : (cached_nodes : List (Option CachedNode)) (place number : ℕ) → node_number_at cached_nodes place ≡ Some number → (cached_node : CachedNode) × ((get_or cached_nodes place None ≡ Some cached_node) × (cached_node.fields.number ≡ number))
numbered cached_nodes place number is = from (get_or cached_nodes place None) refl is
  where
    number_is : (a b : ℕ) → (let one : Option ℕ = Some a in one ≡ Some b) → a ≡ b
    number_is a b e = cc

    from : (found : Option CachedNode) → get_or cached_nodes place None ≡ found → node_number found ≡ Some number → (cached_node : CachedNode) × ((get_or cached_nodes place None ≡ Some cached_node) × (cached_node.fields.number ≡ number))
    from None e is = absurd (none_number number is)
      where
        none_number : (n : ℕ) → (let none : Option ℕ = None in none ≡ Some n) → ⊥
        none_number n e = cc
    from (Some cached_node) e is = (cached_node, (e, number_is cached_node.fields.number number is))

module _ (nodes : ℕ) (image : Image) (mark : ℕ → ℕ) (cached_nodes : List (Option CachedNode)) (known : AreCached nodes mark cached_nodes) where
  abbrev tree : Tree
  tree = tree_of image cached_nodes

  answers : (number : ℕ) → FindsCached image cached_nodes number
  answers = tree_answers image cached_nodes known.apart

  pub is_cached : AreEach cached_nodes
  is_cached = each_cached nodes mark cached_nodes known

  pub node-names : (kind : NodeKind) (cached_node : CachedNode) → HasContent kind cached_node → (key : ℕ) → at key (names_of (content_of image kind cached_node)) ≡ at key cached_node.names
  node-names kind.File cached_node has key = sym (ap (at key) has)
  node-names kind.Directory cached_node has key = at-by_stamp key cached_node.names

  names-there : (place : ℕ) (cached_node : CachedNode) → get_or cached_nodes place None ≡ Some cached_node → (key : ℕ) → at key (names_at tree cached_node.fields.number) ≡ at key cached_node.names
  unfolding node_of
  names-there place cached_node there key =
      let is = is_cached place cached_node there in
      ap (λ (node : Option Node). at key (names_of_node node)) ((answers cached_node.fields.number).found place cached_node there refl)
      ∙ node-names cached_node.fields.kind cached_node is.content key

  pub stamped-content : (kind : NodeKind) (cached_node : CachedNode) → HasContent kind cached_node → NamesStamped cached_node.names
  stamped-content kind.File cached_node has = subst NamesStamped (sym has) (record { above = tt; apart = λ i j d low h. absurd (omega arith) })
  stamped-content kind.Directory cached_node has = has.stamped

  led-index : (place : ℕ) (cached_node : CachedNode) → get_or cached_nodes place None ≡ Some cached_node → (i : ℕ) (d : Record) → i < length cached_node.names → get_or (led_at cached_nodes place) i 0 ≡ (get_or cached_node.names i d).1.number
  led-index place cached_node there i d h =
      ap (λ (found : Option CachedNode). get_or (led_by found) i 0) there ∙ get_or-map (λ (entry : Record). entry.1.number) cached_node.names i d 0 h

  led-length : (place : ℕ) (cached_node : CachedNode) → get_or cached_nodes place None ≡ Some cached_node → length (led_at cached_nodes place) ≡ length cached_node.names
  led-length place cached_node there = ap (λ (found : Option CachedNode). length (led_by found)) there ∙ length-map cached_node.names (λ (entry : Record). entry.1.number)

  nameless : Record
  nameless = (0, record { name = []; number = 0 })

  -- what a walk reaches is reached in the tree
  from-walk : (number : ℕ) → IsReached cached_nodes number → IsFrom tree root number
  from-walk number shape.Root = Start
  from-walk number (shape.Named place directory i there reached within) =
      let at_place = numbered cached_nodes place directory there in
      let cached_node = at_place.0 in
      let is = is_cached place cached_node at_place.1.0 in
      let inside : i < length cached_node.names = rw (← led-length place cached_node at_place.1.0) within in
      let entry = get_or cached_node.names i nameless in
      let has : at entry.0 (names_at tree directory) ≡ Some entry.1 =
      ap (λ n. at entry.0 (names_at tree n)) (sym at_place.1.1)
      ∙ (names-there place cached_node at_place.1.0 entry.0 ∙ at-stamp cached_node.names (stamped-content cached_node.fields.kind cached_node is.content) i nameless inside) in
      subst (IsFrom tree root) (sym (led-index place cached_node at_place.1.0 i nameless inside)) (Named directory entry.0 entry.1 (from-walk directory reached) has)

  none-there : (number key : ℕ) (entry : DirEntry) → at number tree ≡ None → at key (names_at tree number) ≡ Some entry → ⊥
  none-there number key entry none has = none-some entry (sym (ap (λ (node : Option Node). at key (names_of_node node)) none) ∙ has)
    where
      none-some : (entry : DirEntry) → (let none : Option DirEntry = None in none ≡ Some entry) → ⊥
      none-some entry e = cc

  -- and conversely
  to-walk : (number : ℕ) → IsFrom tree root number → IsReached cached_nodes number
  to-walk number Start = shape.Root
  to-walk number (Named directory stamp entry reached has) = elim (find cached_nodes directory) [
    | There place cached_node there is ↦
        let here : at stamp cached_node.names ≡ Some entry = sym (names-there place cached_node there stamp) ∙ (ap (λ n. at stamp (names_at tree n)) is ∙ has) in
        let found = at-index cached_node.names stamp entry here in
        let led : get_or (led_at cached_nodes place) found.0 0 ≡ entry.number = led-index place cached_node there found.0 nameless found.1.0 ∙ ap (λ (e : DirEntry). e.number) (found.1.1 nameless) in
        subst (IsReached cached_nodes) led
        (shape.Named place directory found.0 (ap node_number there ∙ ap Some is) (to-walk directory reached) (rw (led-length place cached_node there) found.1.0))
    | Nowhere none ↦ absurd (none-there directory stamp entry ((answers directory).none none) has)
  ]

  is-key : (place : ℕ) (cached_node : CachedNode) → get_or cached_nodes place None ≡ Some cached_node → IsTrue (is_key cached_node.fields.number tree)
  is-key place cached_node there = subst IsTrue (sym (ap is_some ((answers cached_node.fields.number).found place cached_node there refl))) refl

  key-place : (number : ℕ) → IsTrue (is_key number tree) → (place : ℕ) × (node_number_at cached_nodes place ≡ Some number)
  key-place number key = elim (find cached_nodes number) [
    | There place cached_node there is ↦ (place, ap node_number there ∙ ap Some is)
    | Nowhere none ↦ absurd (true≢false (sym (subst IsTrue (ap is_some ((answers number).none none)) key)))
  ]

  linked-tree : IsOneTree cached_nodes → IsLinked tree
  linked-tree one = record {
    rooted = (let at_root = numbered cached_nodes one.rooted.0 root one.rooted.1 in subst (λ n. IsTrue (is_key n tree)) at_root.1.1 (is-key one.rooted.0 at_root.0 at_root.1.0));
    linked = λ number. (let link = known_link nodes mark cached_nodes known image number in link.to ∙ (one.linked number ∙ sym link.owed));
    reached = λ number key. (let there = key-place number key in from-walk number (one.reached there.0 number there.1));
  }

  tree-linked : IsLinked tree → IsOneTree cached_nodes
  tree-linked linked = record {
    rooted = key-place root linked.rooted;
    linked = λ number. (let link = known_link nodes mark cached_nodes known image number in sym link.to ∙ (linked.linked number ∙ link.owed));
    reached = λ place number there. (let at_place = numbered cached_nodes place number there in to-walk number (linked.reached number (subst (λ n. IsTrue (is_key n tree)) at_place.1.1 (is-key place at_place.0 at_place.1.0))));
  }

  -- Stamps

  stamped-cached : (stamp : ℕ) (kind : NodeKind) (cached_node : CachedNode) → HasContent kind cached_node → one_if (is_key stamp (names_of (content_of image kind cached_node))) ≡ times stamp (stamps_of cached_node.names)
  stamped-cached stamp kind cached_node has =
      ap (λ (found : Option DirEntry). one_if (is_some found)) (node-names kind cached_node has stamp) ∙ key-times stamp cached_node.names (stamped-content kind cached_node has)

  stamped-node : (stamp : ℕ) (cached_node : CachedNode) → IsCached cached_node → is_stamped stamp (node_of image cached_node) ≡ times stamp (stamps_of cached_node.names)
  unfolding node_of
  stamped-node stamp cached_node is = stamped-cached stamp cached_node.fields.kind cached_node is.content

  stamps-sum : (stamp : ℕ) → stamped_in tree stamp ≡ times stamp (entry_stamps cached_nodes)
  stamps-sum stamp = (known_sum nodes mark cached_nodes known image).any (is_stamped stamp) ∙ from cached_nodes is_cached
    where
      from : (cached_nodes : List (Option CachedNode)) → AreEach cached_nodes → sum_over (λ cached_node. is_stamped stamp (node_of image cached_node)) cached_nodes ≡ times stamp (entry_stamps cached_nodes)
      from [] each = refl
      from (None ∷ cached_nodes) each = from cached_nodes (λ place cached_node e. each (suc place) cached_node e)
      from (Some cached_node ∷ cached_nodes) each =
          omega (
            arith,
            stamped-node stamp cached_node (each 0 cached_node refl),
            times-append stamp (stamps_of cached_node.names) (entry_stamps cached_nodes),
            from cached_nodes (λ place cached_node e. each (suc place) cached_node e),
          )

  pub known_walk : IsOneTree cached_nodes ↔ IsLinked tree
  known_walk = (linked-tree, tree-linked)

  pub known_stamp : AreStampsApart cached_nodes ↔ ((stamp : ℕ) → stamped_in tree stamp ≤ 1)
  known_stamp = (λ apart stamp. omega (arith, stamps-sum stamp, apart stamp), λ few stamp. omega (arith, stamps-sum stamp, few stamp))

pub each_walk : EachWalk
each_walk nodes image mark cached_nodes laid = known_walk nodes image mark cached_nodes (laid_are_cached_nodes nodes image mark cached_nodes laid)

pub each_stamp : EachStamp
each_stamp nodes image mark cached_nodes laid = known_stamp nodes image mark cached_nodes (laid_are_cached_nodes nodes image mark cached_nodes laid)
