-- What each edit keeps, as a whole: in terms of the edit itself, and of what the tree holds.
use Rattle.std.proofs.Common.{ℕ, true, List, [], ◌≡◌, ◌≢◌, ◌+◌, ◌<◌, ◌≤◌, ◌⊎◌, inl, inr, refl, sym, ap, ◌∙◌, subst, arith, bytes_eq}
use Rattle.std.specs.Prelude.{Option, Some, None}
use Rattle.std.proofs.lemmas.Bool.{cases_eq}
use Rattle.model_tree.specs.declared.acl.Ace.{Ace}
use Rattle.model_tree.specs.Rights.Acl.{is_list_for}
use Rattle.model_tree.specs.Trees.Changes.{acl_of}
use Rattle.model_tree.specs.Trees.Edit.{Metadata, PutNode, DropNode, Show, PutName, DropName, showing, name_put, name_dropped, altered_at, done}
use Rattle.model_tree.specs.Trees.Keyed.{at, with, without}
use Rattle.model_tree.specs.Trees.Limits.{Limits}
use Rattle.model_tree.specs.Refusals.Name.{name_refusals}
use Rattle.model_tree.specs.Refusals.Refusal.{first_refusal}
use Rattle.model_tree.specs.Trees.Tree.{Tree, Node, DirEntry, kind_of, names_of, names_at, names_of_node, is_directory_at}
use Rattle.model_tree.specs.Trees.WellFormed.{one_if, times_named, IsFrom, IsNode, IsBefore}
use Rattle.model_tree.proofs.Trees.KeyedLaws.{at-with_same, at-with_other, at-without_same, at-without_other, some≢none}
use Rattle.model_tree.proofs.Trees.EditLaws.{IsForest, directory_at, which, same_directories, names_before, names_here, names_elsewhere, at_place, at_other, sum_of_names, drop_stays, drop_fewer, drop_forest, free_forest, free_names, free_which, put_forest, node_forest, node_names, node_which, show_forest, show_names}

-- An entry's stamp is below the bound
pub entry_before : (bound : ℕ) (tree : Tree) → IsBefore bound tree → (number of : ℕ) (entry : DirEntry) → at of (names_at tree number) ≡ Some entry → of < bound
entry_before bound tree before number of entry named = by_node (at number tree) refl named
  where
    by_node : (o : Option Node) → at number tree ≡ o → at of (names_of_node o) ≡ Some entry → of < bound
    by_node None is has = absurd (some≢none entry (sym has))
    by_node (Some node) is has = before.entry number node of entry is has

pub named_in : (tree : Tree) (number : ℕ) (node : Node) → at number tree ≡ Some node → (of : ℕ) (entry : DirEntry)
    → at of (names_of node.content) ≡ Some entry → at of (names_at tree number) ≡ Some entry
named_in tree number node is of entry has = ap (λ (o : Option Node). at of (names_of_node o)) is ∙ has

pub record NameDropped (limits : Limits) (tree after : Tree) (place stamp : ℕ) (entry : DirEntry) : Type 0 where
  pub forest : IsForest limits after (Some entry.number)
  pub fewer : (number of : ℕ) (other : DirEntry) → at of (names_at after number) ≡ Some other → at of (names_at tree number) ≡ Some other
  pub stays : (number of : ℕ) → (number ≡ place → of ≢ stamp) → at of (names_at after number) ≡ at of (names_at tree number)
  pub directories : (number : ℕ) → is_directory_at after number ≡ is_directory_at tree number
  pub lists : (number : ℕ) → acl_of (at number after) ≡ acl_of (at number tree)
  pub elsewhere : (number : ℕ) → number ≢ place → at number after ≡ at number tree
  pub times : (name : List ℕ) (number : ℕ) → times_named name (names_at after number) ≤ times_named name (names_at tree number)
  pub gone : (name : List ℕ) → times_named name (names_at after place) + one_if (bytes_eq name entry.name) ≡ times_named name (names_at tree place)
  pub before : (bound : ℕ) → IsBefore bound tree → IsBefore bound after

pub name_is_dropped : (limits : Limits) (tree : Tree) → IsForest limits tree None → (place stamp : ℕ) (entry : DirEntry)
    → is_directory_at tree place ≡ true → at stamp (names_at tree place) ≡ Some entry
    → NameDropped limits tree (done (DropName place stamp) tree) place stamp entry
name_is_dropped limits tree forest place stamp entry is has =
    let found = directory_at (at place tree) is in
    let old = found.0 in
    let there : at place tree ≡ Some old = found.1 in
    let after = name_dropped stamp old in
    let named : at stamp (names_of old.content) ≡ Some entry = sym (ap (λ (o : Option Node). at stamp (names_of_node o)) there) ∙ has in
    let gone : (name : List ℕ) → times_named name (names_at (with tree place after) place) + one_if (bytes_eq name entry.name) ≡ times_named name (names_at tree place)
    = λ name.
    let sum : times_named name (names_of after.content) + one_if (bytes_eq name entry.name) ≡ times_named name (names_of old.content)
    = sum_of_names limits tree forest place stamp entry old there found.2 named (λ (e : DirEntry). one_if (bytes_eq name e.name)) in
    let now = ap (times_named name) (names_here tree forest.numbered place old there after) in
    let then = ap (times_named name) (names_before tree forest.numbered place old there after) in
    omega arith in
    let fewer = drop_fewer limits tree forest place stamp entry old there found.2 named in
    subst (λ t. NameDropped limits tree t place stamp entry) (sym (ap (altered_at (name_dropped stamp) tree place) there)) (record {
      forest = drop_forest limits tree forest place stamp entry old there found.2 named;
      fewer = fewer;
      stays = drop_stays limits tree forest place stamp entry old there found.2 named;
      directories = same_directories tree forest.numbered place old there after (sym found.2);
      lists = λ number. elim (cases_eq number place) [
        | inl one ↦ rw one (ap acl_of (at_place tree forest.numbered place old there after) ∙ sym (ap acl_of there))
        | inr apart ↦ ap acl_of (at_other tree forest.numbered place old there after number apart)
      ];
      elsewhere = at_other tree forest.numbered place old there after;
      times = λ name number. elim (cases_eq number place) [
        | inl one ↦ rw one (let sum = gone name in omega arith)
        | inr apart ↦ let same = ap (times_named name) (names_elsewhere tree forest.numbered place old there after number apart) in omega arith
      ];
      gone = gone;
      before = λ bound before. record {
        number = which tree forest.numbered place old there after (λ number other. number < bound) (before.number place old there) before.number;
        change = which tree forest.numbered place old there after (λ number other. other.change < bound) (before.change place old there) before.change;
        entry = λ number node of other is in_it. entry_before bound tree before number of other
            (fewer number of other (named_in (with tree place after) number node is of other in_it));
      };
    })

pub record NodeDropped (limits : Limits) (tree after : Tree) (head : ℕ) : Type 0 where
  pub forest : IsForest limits after None
  pub names : (number : ℕ) → names_at after number ≡ names_at tree number
  pub gone : at head after ≡ None
  pub elsewhere : (number : ℕ) → number ≢ head → at number after ≡ at number tree
  pub before : (bound : ℕ) → IsBefore bound tree → IsBefore bound after

pub node_is_dropped : (limits : Limits) (tree : Tree) (head : ℕ) → IsForest limits tree (Some head) → (old : Node) → at head tree ≡ Some old
    → names_of old.content ≡ [] → NodeDropped limits tree (done (DropNode head) tree) head
node_is_dropped limits tree head forest old there empty = record {
  forest = free_forest limits tree head forest old there empty;
  names = free_names limits tree head forest old there empty;
  gone = at-without_same tree head;
  elsewhere = at-without_other tree head;
  before = λ bound before. record {
    number = free_which limits tree head forest old there empty (λ number other. number < bound) before.number;
    change = free_which limits tree head forest old there empty (λ number other. other.change < bound) before.change;
    entry = λ number node of other is in_it. entry_before bound tree before number of other
        (sym (ap (at of) (free_names limits tree head forest old there empty number)) ∙ named_in (without tree head) number node is of other in_it);
  };
}

pub record NamePut (limits : Limits) (tree after : Tree) (place stamp : ℕ) (entry : DirEntry) : Type 0 where
  pub forest : IsForest limits after None
  pub directories : (number : ℕ) → is_directory_at after number ≡ is_directory_at tree number
  pub lists : (number : ℕ) → acl_of (at number after) ≡ acl_of (at number tree)
  pub elsewhere : (number : ℕ) → number ≢ place → at number after ≡ at number tree
  pub entries : (number of : ℕ) (other : DirEntry) → at of (names_at after number) ≡ Some other
      → (at of (names_at tree number) ≡ Some other) ⊎ (of ≡ stamp)
  pub before : (bound : ℕ) → stamp < bound → IsBefore bound tree → IsBefore bound after

pub name_is_put : (limits : Limits) (tree : Tree) (place stamp : ℕ) (entry : DirEntry) → IsForest limits tree (Some entry.number)
    → is_directory_at tree place ≡ true
    → ((number of : ℕ) (other : DirEntry) → at of (names_at tree number) ≡ Some other → of < stamp) → 0 < stamp
    → first_refusal (name_refusals limits entry.name) ≡ None → times_named entry.name (names_at tree place) ≡ 0 → (IsFrom tree entry.number place → ⊥)
    → NamePut limits tree (done (PutName place stamp entry) tree) place stamp entry
name_is_put limits tree place stamp entry forest is fresh above allowed new apart_from =
    let found = directory_at (at place tree) is in
    let old = found.0 in
    let there : at place tree ≡ Some old = found.1 in
    let after = name_put stamp entry old in
    let entries : (number of : ℕ) (other : DirEntry) → at of (names_at (with tree place after) number) ≡ Some other
    → (at of (names_at tree number) ≡ Some other) ⊎ (of ≡ stamp)
    = λ number of other named. elim (cases_eq of stamp) [
      | inl one ↦ inr one
      | inr other_stamp ↦ inl (elim (cases_eq number place) [
        | inl one ↦
            ap (λ n. at of (names_at tree n)) one ∙ (ap (at of) (names_before tree forest.numbered place old there after)
            ∙ (sym (at-with_other (names_of old.content) stamp of entry other_stamp)
            ∙ (sym (ap (at of) (names_here tree forest.numbered place old there after))
            ∙ (sym (ap (λ n. at of (names_at (with tree place after) n)) one) ∙ named))))
        | inr apart ↦ sym (ap (at of) (names_elsewhere tree forest.numbered place old there after number apart)) ∙ named
      ])
    ] in
    subst (λ t. NamePut limits tree t place stamp entry) (sym (ap (altered_at (name_put stamp entry) tree place) there)) (record {
      forest = put_forest limits tree entry.number forest place stamp entry.name old there found.2
          fresh above allowed new apart_from;
      directories = same_directories tree forest.numbered place old there after (sym found.2);
      lists = λ number. elim (cases_eq number place) [
        | inl one ↦ rw one (ap acl_of (at_place tree forest.numbered place old there after) ∙ sym (ap acl_of there))
        | inr apart ↦ ap acl_of (at_other tree forest.numbered place old there after number apart)
      ];
      elsewhere = at_other tree forest.numbered place old there after;
      entries = entries;
      before = λ bound low before. record {
        number = which tree forest.numbered place old there after (λ number other. number < bound) (before.number place old there) before.number;
        change = which tree forest.numbered place old there after (λ number other. other.change < bound) (before.change place old there) before.change;
        entry = λ number node of other is in_it. elim (entries number of other (named_in (with tree place after) number node is of other in_it)) [
          | inl was ↦ entry_before bound tree before number of other was
          | inr one ↦ omega (arith, one, low)
        ];
      };
    })

pub record NodePut (limits : Limits) (tree after : Tree) (number : ℕ) (node : Node) : Type 0 where
  pub forest : IsForest limits after (Some number)
  pub names : (of : ℕ) → names_at after of ≡ names_at tree of
  pub here : at number after ≡ Some node
  pub elsewhere : (of : ℕ) → of ≢ number → at of after ≡ at of tree
  pub before : (bound : ℕ) → number < bound → node.change < bound → IsBefore bound tree → IsBefore bound after

pub node_is_put : (limits : Limits) (tree : Tree) → IsForest limits tree None → (number : ℕ) (node : Node) → at number tree ≡ None → 0 < number
    → IsNode limits node → names_of node.content ≡ [] → NodePut limits tree (done (PutNode number node) tree) number node
node_is_put limits tree forest number node unused above is_node empty = record {
  forest = node_forest limits tree forest number node unused above is_node empty;
  names = node_names limits tree forest number node unused above is_node empty;
  here = at-with_same tree number node;
  elsewhere = λ of apart. at-with_other tree number of node apart;
  before = λ bound low_number low_change before. record {
    number = node_which limits tree forest number node unused above is_node empty (λ of other. of < bound) low_number before.number;
    change = node_which limits tree forest number node unused above is_node empty (λ of other. other.change < bound) low_change before.change;
    entry = λ at_number other of entry is in_it. entry_before bound tree before at_number of entry
        (sym (ap (at of) (node_names limits tree forest number node unused above is_node empty at_number))
        ∙ named_in (with tree number node) at_number other is of entry in_it);
  };
}

pub record NodeShown (limits : Limits) (tree after : Tree) (head : Option ℕ) (place : ℕ) (metadata : Metadata) : Type 0 where
  pub forest : IsForest limits after head
  pub names : (number : ℕ) → names_at after number ≡ names_at tree number
  pub directories : (number : ℕ) → is_directory_at after number ≡ is_directory_at tree number
  pub lists : (number : ℕ) → acl_of (at number after) ≡ acl_of (at number tree)
  pub elsewhere : (number : ℕ) → number ≢ place → at number after ≡ at number tree
  pub here : (node : Node) → at place after ≡ Some node → node.change ≡ metadata.change
  pub before : (bound : ℕ) → metadata.change < bound → IsBefore bound tree → IsBefore bound after

-- a directory gets other metadata, and keeps its list
pub node_is_shown : (limits : Limits) (tree : Tree) (head : Option ℕ) → IsForest limits tree head → (place : ℕ) (metadata : Metadata)
    → is_directory_at tree place ≡ true → acl_of (at place tree) ≡ metadata.acl
    → NodeShown limits tree (done (Show place metadata) tree) head place metadata
node_is_shown limits tree head forest place metadata is list =
    let found = directory_at (at place tree) is in
    let old = found.0 in
    let there : at place tree ≡ Some old = found.1 in
    let after = showing metadata old in
    let same_list : old.acl ≡ metadata.acl = sym (ap acl_of there) ∙ list in
    let list_for : is_list_for limits.aces_set limits.aces (kind_of old.content) metadata.acl ≡ true
    = subst (λ (l : List Ace). is_list_for limits.aces_set limits.aces (kind_of old.content) l ≡ true) same_list (forest.nodes place old there).entries in
    let names = show_names limits tree head forest place old there metadata list_for in
    subst (λ t. NodeShown limits tree t head place metadata) (sym (ap (altered_at (showing metadata) tree place) there)) (record {
      forest = show_forest limits tree head forest place old there metadata list_for;
      names = names;
      directories = same_directories tree forest.numbered place old there after refl;
      lists = λ number. elim (cases_eq number place) [
        | inl one ↦ rw one (ap acl_of (at_place tree forest.numbered place old there after) ∙ (sym same_list ∙ sym (ap acl_of there)))
        | inr apart ↦ ap acl_of (at_other tree forest.numbered place old there after number apart)
      ];
      elsewhere = at_other tree forest.numbered place old there after;
      here = λ node is_node. change_same old node (sym (at_place tree forest.numbered place old there after) ∙ is_node);
      before = λ bound low before. record {
        number = which tree forest.numbered place old there after (λ number other. number < bound) (before.number place old there) before.number;
        change = which tree forest.numbered place old there after (λ number other. other.change < bound) low before.change;
        entry = λ number node of other is_node in_it. entry_before bound tree before number of other
            (sym (ap (at of) (names number)) ∙ named_in (with tree place after) number node is_node of other in_it);
      };
    })
  where
    change_same : (old node : Node) → Some (showing metadata old) ≡ Some node → node.change ≡ metadata.change
    change_same old node same = sym (ap (λ (n : Node). n.change) (value (showing metadata old) node same))
      where
        value : (x y : Node) → Some x ≡ Some y → x ≡ y
        value x y equal = cc
