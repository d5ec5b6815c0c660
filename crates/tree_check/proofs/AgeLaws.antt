-- Cached nodes from before a stamp represent a tree from before it.
use Rattle.std.proofs.Common.{◌≡◌, ◌≤◌, ◌<◌, ◌↔◌, ℕ, zero, suc, List, [], ◌∷◌, Option, Some, None, length, get_or, refl, sym, ap, subst, ◌∙◌, arith, inl, inr, ne_eqb}
use Rattle.std.proofs.lemmas.Bool.{cases_eq}
use Rattle.disk.specs.Moments.{Image}
use Rattle.model_tree.specs.Trees.Keyed.{at, here_or}
use Rattle.model_tree.specs.Trees.Tree.{Tree, Node, DirEntry, names_of}
use Rattle.model_tree.specs.Trees.WellFormed.{IsBefore}
use Rattle.directory.specs.Records.{Record}
use Rattle.layout.specs.CachedNodes.{CachedNode, tree_of, node_of}
use Rattle.layout.specs.Known.{AreCached}
use Rattle.layout.proofs.Answering.{tree_answers}
use Rattle.layout.proofs.Knowing.{laid_are_cached_nodes}
use Rattle.tree_check.specs.Ages.{AreBefore, AreNamesBefore}
use Rattle.tree_check.specs.ShapeLaws.{EachAge}
use Rattle.tree_check.proofs.TreeLaws.{There, Nowhere, at-stamp, find, is_cached, node-names, stamped-content}

pub not_before : (stamp : ℕ) (names : List Record) (i : ℕ) (one : Record) → ((d : Record) → get_or names i d ≡ one) → i < length names → stamp ≤ one.0
    → AreNamesBefore stamp names → ⊥
not_before stamp [] i one is h late before = absurd (omega arith)
not_before stamp (x ∷ names) zero one is h late before =
    let same : x.0 ≡ one.0 = ap (λ (r : Record). r.0) (is x) in
    let low : x.0 < stamp = before.0 in
    omega arith
not_before stamp (x ∷ names) (suc i) one is h late before = not_before stamp names i one is (omega arith) late before.1

-- names by their stamps

at-before : (stamp : ℕ) (names : List Record) (key : ℕ) (entry : DirEntry) → AreNamesBefore stamp names → at key names ≡ Some entry → key < stamp
at-before stamp [] key entry before e = absurd (none_some entry e)
  where
    none_some : (entry : DirEntry) → (let none : Option DirEntry = None in none ≡ Some entry) → ⊥
    none_some entry e = cc
at-before stamp (x ∷ names) key entry before e = elim (cases_eq key x.0) [
  | inl same ↦ let low : x.0 < stamp = before.0 in omega arith
  | inr off ↦
      let rest : at key (x ∷ names) ≡ at key names = ap (λ b. here_or b x.1 (at key names)) (ne_eqb key x.0 off) in
      at-before stamp names key entry before.1 (sym rest ∙ e)
]

all-before : (stamp : ℕ) (names : List Record) → ((i : ℕ) (d : Record) → i < length names → (get_or names i d).0 < stamp) → AreNamesBefore stamp names
all-before stamp [] each = tt
all-before stamp (x ∷ names) each = (each 0 x (omega arith), all-before stamp names (λ i d h. each (suc i) d (omega arith)))

module _ (nodes : ℕ) (image : Image) (mark : ℕ → ℕ) (cached_nodes : List (Option CachedNode)) (known : AreCached nodes mark cached_nodes) (stamp : ℕ) where
  abbrev tree : Tree
  tree = tree_of image cached_nodes

  pub node-is : (number : ℕ) (node : Node) (place : ℕ) (cached : CachedNode) → at number tree ≡ Some node → get_or cached_nodes place None ≡ Some cached → cached.fields.number ≡ number → node ≡ node_of image cached
  node-is number node place cached e there is = some_node node (node_of image cached) (sym e ∙ (tree_answers image cached_nodes known.apart number).found place cached there is)
    where
      some_node : (a b : Node) → (let one : Option Node = Some a in one ≡ Some b) → a ≡ b
      some_node a b e = cc

  pub none-node : (number : ℕ) (node : Node) → at number tree ≡ Some node → at number tree ≡ None → ⊥
  none-node number node e none = none_some node (sym none ∙ e)
    where
      none_some : (node : Node) → (let none : Option Node = None in none ≡ Some node) → ⊥
      none_some node e = cc

  change-is : (cached : CachedNode) → (node_of image cached).change ≡ cached.fields.change
  unfolding node_of
  change-is cached = refl

  names-are : (place : ℕ) (cached : CachedNode) → get_or cached_nodes place None ≡ Some cached → (key : ℕ) → at key (names_of (node_of image cached).content) ≡ at key cached.names
  unfolding node_of
  names-are place cached there key = node-names nodes image mark cached_nodes known cached.fields.kind cached (is_cached nodes image mark cached_nodes known place cached there).content key

  before-tree : AreBefore stamp cached_nodes → IsBefore stamp tree
  before-tree before = record {
    number = λ number node e. elim (find cached_nodes number) [
      | There place cached there is ↦ subst (λ n. n < stamp) is (before place cached there).number
      | Nowhere none ↦ absurd (none-node number node e ((tree_answers image cached_nodes known.apart number).none none))
    ];
    change = λ number node e. elim (find cached_nodes number) [
      | There place cached there is ↦
          subst (λ n. n < stamp) (sym (ap (λ (node : Node). node.change) (node-is number node place cached e there is) ∙ change-is cached)) (before place cached there).change
      | Nowhere none ↦ absurd (none-node number node e ((tree_answers image cached_nodes known.apart number).none none))
    ];
    entry = λ number node key entry e has. elim (find cached_nodes number) [
      | There place cached there is ↦
          at-before stamp cached.names key entry (before place cached there).names
          (sym (names-are place cached there key) ∙ (ap (λ (node : Node). at key (names_of node.content)) (sym (node-is number node place cached e there is)) ∙ has))
      | Nowhere none ↦ absurd (none-node number node e ((tree_answers image cached_nodes known.apart number).none none))
    ];
  }

  tree-before : IsBefore stamp tree → AreBefore stamp cached_nodes
  tree-before before place cached there =
      let has = (tree_answers image cached_nodes known.apart cached.fields.number).found place cached there refl in
      let stamped = stamped-content nodes image mark cached_nodes known cached.fields.kind cached (is_cached nodes image mark cached_nodes known place cached there).content in
      record {
        number = before.number cached.fields.number (node_of image cached) has;
        change = subst (λ n. n < stamp) (change-is cached) (before.change cached.fields.number (node_of image cached) has);
        names = all-before stamp cached.names (λ i d h. before.entry cached.fields.number (node_of image cached) (get_or cached.names i d).0 (get_or cached.names i d).1 has
            (names-are place cached there (get_or cached.names i d).0 ∙ at-stamp cached.names stamped i d h));
      }

pub known_age : (nodes : ℕ) (image : Image) (mark : ℕ → ℕ) (cached_nodes : List (Option CachedNode)) → AreCached nodes mark cached_nodes → (stamp : ℕ) → AreBefore stamp cached_nodes ↔ IsBefore stamp (tree_of image cached_nodes)
known_age nodes image mark cached_nodes known stamp = (before-tree nodes image mark cached_nodes known stamp, tree-before nodes image mark cached_nodes known stamp)

pub each_age : EachAge
each_age nodes image mark cached_nodes laid = known_age nodes image mark cached_nodes (laid_are_cached_nodes nodes image mark cached_nodes laid)
