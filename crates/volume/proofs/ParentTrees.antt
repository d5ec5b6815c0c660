-- What holds by place holds of the tree, whatever the sectors hold.
use Rattle.std.proofs.Common.{◌≡◌, ◌<◌, ℕ, List, [], ◌∷◌, Option, Some, length, get_or, refl, sym, ap, subst, ◌∙◌, arith, inl, inr, lt-ltb, le-ltb}
use Rattle.std.proofs.lemmas.Bool.{cases_eq, cases_lt}
use Rattle.std.proofs.lemmas.Option.{same_Some}
use Rattle.disk.specs.Moments.{Image}
use Rattle.model_tree.specs.Trees.Ancestors.{parent_of}
use Rattle.model_tree.specs.Trees.Keyed.{at, IsAbove}
use Rattle.model_tree.specs.Trees.Tree.{Tree, Node, root}
use Rattle.model_tree.specs.Trees.WellFormed.{links_from}
use Rattle.model_tree.proofs.Trees.KeyedLaws.{at-first, at-rest, at-above}
use Rattle.model_tree.proofs.Facts.OptionLaws.{some≢none}
use Rattle.model_tree.proofs.Facts.BooleanLaws.{if_true, if_false}
use Rattle.node_table.specs.Tables.{node_number_at, node_number, HasNoNode, count_of_all}
use Rattle.layout.specs.CachedNodes.{CachedNode, tree_of, node_of}
use Rattle.layout.specs.Known.{AreCached}
use Rattle.layout.specs.Marks.{times}
use Rattle.layout.specs.SumLaws.{numbers_of}
use Rattle.layout.proofs.Answering.{tree-has}
use Rattle.layout.proofs.Changing.{tree-above, tree-lacks}
use Rattle.layout.proofs.Knowing.{AreEach, each_above, each_cached}
use Rattle.layout.proofs.Summing.{known_sum, links-cached}
use Rattle.tree_check.specs.Trees.{led_at, led_by, IsOneTree}
use Rattle.tree_check.proofs.TreeLaws.{find, There, Nowhere, numbered}
use Rattle.volume.specs.ParentIndex.{PlaceLeadsTo, HasChild, AreParents}
use Rattle.volume.proofs.ParentLinks.{no_root, no_other, has_name}

-- A tree's parents

-- each node with a name of the number has this number
Only : Tree → (number parent : ℕ) → Type 0
Only tree number parent = (key : ℕ) (node : Node) → at key tree ≡ Some node → 0 < links_from number node → key ≡ parent

only-rest : (entry : ℕ × Node) (rest : Tree) (number parent : ℕ) → IsAbove entry.0 rest → Only (entry ∷ rest) number parent → Only rest number parent
unfolding Only
only-rest entry rest number parent above only key node is leads =
    let low = at-above rest entry.0 key node above is in
    only key node (at-rest entry.0 key entry.1 rest (omega arith) ∙ is) leads

parent_found : (tree : Tree) (least number parent key : ℕ) (node : Node) → IsAbove least tree → Only tree number parent → at key tree ≡ Some node → 0 < links_from number node
    → parent_of tree number ≡ parent
unfolding Only
parent_found [] least number parent key node above only is leads = absurd (some≢none node (sym is))
parent_found (entry ∷ rest) least number parent key node above only is leads = elim (cases_lt 0 (links_from number entry.1)) [
  | inl first ↦
      if_true _ entry.0 (parent_of rest number) (lt-ltb 0 (links_from number entry.1) first)
      ∙ only entry.0 entry.1 (at-first entry.0 entry.0 entry.1 rest refl) first
  | inr none ↦ elim (cases_eq key entry.0) [
    | inl one ↦
        let same : entry.1 ≡ node = same_Some entry.1 node (sym (at-first entry.0 key entry.1 rest one) ∙ is) in
        let worths : links_from number entry.1 ≡ links_from number node = ap (links_from number) same in
        absurd (omega arith)
    | inr apart ↦
        if_false _ entry.0 (parent_of rest number) (le-ltb 0 (links_from number entry.1) none)
        ∙ parent_found rest entry.0 number parent key node above.1 (only-rest entry rest number parent above.1 only) (sym (at-rest entry.0 key entry.1 rest apart) ∙ is) leads
  ]
]

Never : Tree → (number : ℕ) → Type 0
Never tree number = (key : ℕ) (node : Node) → at key tree ≡ Some node → links_from number node ≡ 0

parent_none : (tree : Tree) (least number : ℕ) → IsAbove least tree → Never tree number → parent_of tree number ≡ 0
unfolding Never
parent_none [] least number above never = refl
parent_none (entry ∷ rest) least number above never =
    let none = never entry.0 entry.1 (at-first entry.0 entry.0 entry.1 rest refl) in
    if_false _ entry.0 (parent_of rest number) (le-ltb 0 (links_from number entry.1) (omega arith))
    ∙ parent_none rest entry.0 number above.1 (λ key node is. let low = at-above rest entry.0 key node above.1 is in never key node (at-rest entry.0 key entry.1 rest (omega arith) ∙ is))

module _ (nodes : ℕ) (mark : ℕ → ℕ) (cached_nodes : List (Option CachedNode)) (known : AreCached nodes mark cached_nodes) where
  is_cached : AreEach cached_nodes
  is_cached = each_cached nodes mark cached_nodes known

  above : (image : Image) → IsAbove 0 (tree_of image cached_nodes)
  above image = tree-above image cached_nodes (each_above cached_nodes is_cached)

  module _ (image : Image) (number : ℕ) where
    -- a name in the tree is one of the cached nodes
    pub name_of_cached : (key : ℕ) (node : Node) → at key (tree_of image cached_nodes) ≡ Some node → 0 < links_from number node → HasChild cached_nodes key number
    name_of_cached key node is leads = elim (find cached_nodes key) [
      | There p cached_node there same ↦
          let node_is : node_of image cached_node ≡ node = same_Some (node_of image cached_node) node (sym (tree-has image cached_nodes p cached_node known.apart there) ∙ ap (λ n. at n (tree_of image cached_nodes)) same ∙ is) in
          let links : links_from number node ≡ times number (numbers_of cached_node.names) = ap (links_from number) (sym node_is) ∙ links-cached number image cached_node (is_cached p cached_node there) in
          let led : times number (led_at cached_nodes p) ≡ times number (numbers_of cached_node.names) = ap (λ (found : Option CachedNode). times number (led_by found)) there in
          record { place = p; there = ap node_number there ∙ ap Some same; leads = omega arith }
      | Nowhere none ↦ absurd (some≢none node (sym is ∙ tree-lacks image cached_nodes key none))
    ]

    -- and the other way
    pub cached_of_name : (directory : ℕ) → HasChild cached_nodes directory number → (node : Node) × ((at directory (tree_of image cached_nodes) ≡ Some node) × (0 < links_from number node))
    cached_of_name directory has =
        let found = numbered cached_nodes has.place directory has.there in
        let cached_node = found.0 in
        let there = found.1.0 in
        let led : times number (led_at cached_nodes has.place) ≡ times number (numbers_of cached_node.names) = ap (λ (o : Option CachedNode). times number (led_by o)) there in (
          node_of image cached_node,
          (
            ap (λ n. at n (tree_of image cached_nodes)) (sym found.1.1) ∙ tree-has image cached_nodes has.place cached_node known.apart there,
            omega (arith, led, has.leads, links-cached number image cached_node (is_cached has.place cached_node there)),
          ),
        )

    pub no-parent : ((p : ℕ) → PlaceLeadsTo cached_nodes p number → ⊥) → parent_of (tree_of image cached_nodes) number ≡ 0
    unfolding Never
    no-parent none = parent_none (tree_of image cached_nodes) 0 number (above image) (λ key node is. elim (cases_eq (links_from number node) 0) [
      | inl zero_links ↦ zero_links
      | inr some ↦ let has = name_of_cached key node is (omega arith) in absurd (none has.place has.leads)
    ])

    module _ (tree : IsOneTree cached_nodes) (parents : List ℕ) (are : AreParents cached_nodes parents) where
      pub parent-there : (place : ℕ) → node_number_at cached_nodes place ≡ Some number → parent_of (tree_of image cached_nodes) number ≡ get_or parents place 0
      unfolding Only
      parent-there place there = elim (cases_eq number root) [
        | inl is ↦
            no-parent (λ p leads. no_root cached_nodes tree p (subst (PlaceLeadsTo cached_nodes p) is leads))
            ∙ sym (are.rooted place (there ∙ ap Some is))
        | inr off ↦
            let has = has_name cached_nodes tree number place off there in
            let stands = cached_of_name has.0 has.1 in
            parent_found (tree_of image cached_nodes) 0 number (get_or parents place 0) has.0 stands.0 (above image)
            (λ key node is leads. sym (are.named place number key there (name_of_cached key node is leads))) stands.1.0 stands.1.1
      ]

      pub parent-nowhere : HasNoNode cached_nodes number → parent_of (tree_of image cached_nodes) number ≡ 0
      parent-nowhere lack = no-parent (λ p leads. no_other cached_nodes tree number p lack leads)

-- How many nodes the tree has

pub known-count : (nodes : ℕ) (mark : ℕ → ℕ) (cached_nodes : List (Option CachedNode)) → AreCached nodes mark cached_nodes → (image : Image) → length (tree_of image cached_nodes) ≡ count_of_all cached_nodes
known-count nodes mark cached_nodes known image = (known_sum nodes mark cached_nodes known image).nodes
