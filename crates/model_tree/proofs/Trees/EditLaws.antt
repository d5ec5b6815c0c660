-- Each edit keeps a tree well formed, except that one node may have no name meanwhile.
use Rattle.std.proofs.Common.{ℕ, Bool, true, false, List, [], ◌≡◌, ◌≢◌, ◌+◌, ◌<◌, ◌≤◌, ◌&&◌, ◌⊎◌, not, inl, inr, refl, sym, ap, ◌∙◌, subst, arith, eqb, eq-eqb, ne_eqb, lt_irrefl, is_some, bytes_eq}
use Rattle.std.specs.Prelude.{Option, Some, None}
use Rattle.std.specs.Cmp.Lexicographic.{bytes_decides}
use Rattle.std.proofs.lemmas.Bool.{cases_eq, cases_Bool}
use Rattle.std.proofs.lemmas.Option.{same_Some}
use Rattle.model_tree.specs.declared.node.NodeKind.TheVariants as kind
use Rattle.model_tree.specs.Rights.Acl.{is_list_for}
use Rattle.model_tree.specs.Trees.Charge.{fits}
use Rattle.model_tree.specs.Trees.Edit.{Metadata, showing, name_put, name_dropped}
use Rattle.model_tree.specs.Trees.Keyed.{Keyed, at, is_key, with, without, total, IsAbove}
use Rattle.model_tree.specs.Trees.Limits.{Limits}
use Rattle.model_tree.specs.Refusals.Name.{name_refusals}
use Rattle.model_tree.specs.Refusals.Refusal.{first_refusal}
use Rattle.model_tree.specs.Trees.Tree.{Tree, Node, Content, File, Directory, DirEntry, root, kind_of, names_of, names_at, names_of_node, is_directory, is_directory_node, is_directory_at}
use Rattle.model_tree.specs.Trees.WellFormed.{one_if, links_in, links_from, links_to, links_owed, is_stamped, stamped_in, times_named, IsFrom, Start, Named, AreNames, IsContent, IsNode, IsWellFormed}
use Rattle.model_tree.proofs.Trees.KeyedLaws.{at-with_same, at-with_other, at-without_same, at-without_other, at-above, total-with, total-without, total-none, IsAbove-with, IsAbove-without, some≢none}
use Rattle.model_tree.proofs.Facts.BooleanLaws.{and_false, one_at_most}
use Rattle.model_tree.proofs.Facts.OptionLaws.{none_unless}

-- Well formed, except for one node, the head, to which no name leads. Only at the end must the tree
-- fit.

abbrev pub is_head : Option ℕ → (number : ℕ) → ℕ
is_head None number = 0
is_head (Some head) number = one_if (eqb head number)

pub record IsForest (limits : Limits) (tree : Tree) (head : Option ℕ) : Type 0 where
  pub numbered : IsAbove 0 tree
  pub rooted : is_directory_at tree root ≡ true
  pub linked : (number : ℕ) → links_to tree number + is_head head number ≡ links_owed tree number
  pub reached : (number : ℕ) → is_key number tree ≡ true
      → IsFrom tree root number ⊎ ((from : ℕ) × (head ≡ Some from) × IsFrom tree from number)
  pub stamped : (stamp : ℕ) → stamped_in tree stamp ≤ 1
  pub nodes : (number : ℕ) (node : Node) → at number tree ≡ Some node → IsNode limits node

-- Small facts

pub kind_of_directory : (content : Content) → is_directory content ≡ true → kind_of content ≡ kind.Directory
kind_of_directory (File bytes) directory = absurd (cc)
kind_of_directory (Directory names) directory = refl

names_of_directory : (limits : Limits) (content : Content) → IsContent limits content → is_directory content ≡ true
    → AreNames limits (names_of content)
names_of_directory limits (File bytes) is directory = absurd (cc)
names_of_directory limits (Directory names) is directory = is

pub directory_at : (o : Option Node) → is_directory_node o ≡ true → (node : Node) × (o ≡ Some node) × (is_directory node.content ≡ true)
directory_at None is = absurd (cc)
directory_at (Some node) is = (node, refl, is)

-- A well-formed tree is a forest without a head, and conversely

pub forest_of : (limits : Limits) (tree : Tree) → IsWellFormed limits tree → IsForest limits tree None
forest_of limits tree well = record {
  numbered = well.numbered;
  rooted = well.rooted;
  linked = λ number. let old : links_to tree number ≡ links_owed tree number = well.linked number in omega arith;
  reached = λ number key. inl (well.reached number key);
  stamped = well.stamped;
  nodes = well.nodes;
}

from_root : (tree : Tree) (number : ℕ) → IsFrom tree root number ⊎ ((from : ℕ) × (None ≡ Some from) × IsFrom tree from number) → IsFrom tree root number
from_root tree number (inl is) = is
from_root tree number (inr is) = absurd (some≢none is.0 (sym is.1))

pub well_formed_of : (limits : Limits) (tree : Tree) → IsForest limits tree None → fits limits tree ≡ true → IsWellFormed limits tree
well_formed_of limits tree forest fitting = record {
  numbered = forest.numbered;
  rooted = forest.rooted;
  linked = λ number. let old : links_to tree number + 0 ≡ links_owed tree number = forest.linked number in omega arith;
  reached = λ number key. from_root tree number (forest.reached number key);
  stamped = forest.stamped;
  nodes = forest.nodes;
  fitting = fitting;
}

-- If a tree has no name that another lacks, what is reached in it is reached in the other
pub from_more : (few more : Tree) → ((number stamp : ℕ) (entry : DirEntry) → at stamp (names_at few number) ≡ Some entry → at stamp (names_at more number) ≡ Some entry)
    → (start number : ℕ) → IsFrom few start number → IsFrom more start number
from_more few more names start _ Start = Start
from_more few more names start _ (Named directory stamp entry from has) =
    Named directory stamp entry (from_more few more names start directory from) (names directory stamp entry has)

-- A node in place of another of its number

module _ (tree : Tree) (numbered : IsAbove 0 tree) (place : ℕ) (old : Node) (there : at place tree ≡ Some old) (node : Node) where
  abbrev pub after : Tree
  after = with tree place node

  pub at_place : at place after ≡ Some node
  at_place = at-with_same tree place node

  pub at_other : (number : ℕ) → number ≢ place → at number after ≡ at number tree
  at_other number apart = at-with_other tree place number node apart

  pub which : (P : ℕ → Node → Type 0) → P place node → ((number : ℕ) (other : Node) → at number tree ≡ Some other → P number other)
      → (number : ℕ) (other : Node) → at number after ≡ Some other → P number other
  which P first others number other has = elim (cases_eq number place) [
    | inl one ↦
        let same : node ≡ other = same_Some node other (sym at_place ∙ (sym (ap (λ n. at n after) one) ∙ has)) in
        subst (λ n. P n other) (sym one) (subst (P place) same first)
    | inr apart ↦ others number other (sym (at_other number apart) ∙ has)
  ]

  sum_after : (worth : Node → ℕ) → total worth after + worth old ≡ total worth tree + worth node
  sum_after worth = rw there at (total-with worth tree place 0 node numbered)

  numbered_after : IsAbove 0 after
  numbered_after = IsAbove-with tree place 0 node numbered (at-above tree 0 place old numbered there)

  same_key : (number : ℕ) → is_key number after ≡ is_key number tree
  same_key number = elim (cases_eq number place) [
    | inl one ↦ rw one (ap is_some at_place ∙ sym (ap is_some there))
    | inr apart ↦ ap is_some (at_other number apart)
  ]

  same_owed : (number : ℕ) → links_owed after number ≡ links_owed tree number
  same_owed number = ap (λ b. one_if (b && not (eqb number root))) (same_key number)

  pub same_directories : is_directory node.content ≡ is_directory old.content → (number : ℕ) → is_directory_at after number ≡ is_directory_at tree number
  same_directories same number = elim (cases_eq number place) [
    | inl one ↦ rw one (ap is_directory_node at_place ∙ (same ∙ sym (ap is_directory_node there)))
    | inr apart ↦ ap is_directory_node (at_other number apart)
  ]

  pub names_here : names_at after place ≡ names_of node.content
  names_here = ap names_of_node at_place

  pub names_before : names_at tree place ≡ names_of old.content
  names_before = ap names_of_node there

  pub names_elsewhere : (number : ℕ) → number ≢ place → names_at after number ≡ names_at tree number
  names_elsewhere number apart = ap names_of_node (at_other number apart)

-- A name is dropped

module _ (limits : Limits) (tree : Tree) (forest : IsForest limits tree None) (place stamp : ℕ) (entry : DirEntry) (old : Node)
    (there : at place tree ≡ Some old) (is : is_directory old.content ≡ true) (has : at stamp (names_of old.content) ≡ Some entry) where
  abbrev pub dropped : Node
  dropped = name_dropped stamp old

  abbrev pub then : Tree
  then = with tree place dropped

  abbrev pub names : Keyed DirEntry
  names = without (names_of old.content) stamp

  old_names : AreNames limits (names_of old.content)
  old_names = names_of_directory limits old.content (forest.nodes place old there).content is

  pub sum_of_names : (worth : DirEntry → ℕ) → total worth names + worth entry ≡ total worth (names_of old.content)
  sum_of_names worth = rw has at (total-without worth (names_of old.content) stamp 0 old_names.rising)

  drop_linked : (number : ℕ) → links_to then number + one_if (eqb entry.number number) ≡ links_owed then number
  drop_linked number =
      let nodes : links_to then number + links_from number old ≡ links_to tree number + links_from number dropped
      = sum_after tree forest.numbered place old there dropped (links_from number) in
      let of_names : links_from number dropped + one_if (eqb entry.number number) ≡ links_from number old
      = sum_of_names (λ (e : DirEntry). one_if (eqb e.number number)) in
      let before : links_to tree number + 0 ≡ links_owed tree number = forest.linked number in
      let owed = same_owed tree forest.numbered place old there dropped number in
      omega arith

  -- which names remain
  pub drop_stays : (number of : ℕ) → (number ≡ place → of ≢ stamp) → at of (names_at then number) ≡ at of (names_at tree number)
  drop_stays number of apart = elim (cases_eq number place) [
    | inl one ↦
        ap (λ n. at of (names_at then n)) one
        ∙ (ap (at of) (names_here tree forest.numbered place old there dropped)
        ∙ (at-without_other (names_of old.content) stamp of (apart one)
        ∙ (sym (ap (at of) (names_before tree forest.numbered place old there dropped)) ∙ sym (ap (λ n. at of (names_at tree n)) one))))
    | inr elsewhere ↦ ap (at of) (names_elsewhere tree forest.numbered place old there dropped number elsewhere)
  ]

  pub drop_gone : at stamp (names_at then place) ≡ None
  drop_gone = ap (at stamp) (names_here tree forest.numbered place old there dropped) ∙ at-without_same (names_of old.content) stamp

  -- either it was dropped or it is there still
  drop_either : (number of : ℕ) (other : DirEntry) → at of (names_at tree number) ≡ Some other
      → (other ≡ entry) ⊎ (at of (names_at then number) ≡ Some other)
  drop_either number of other named = elim (cases_eq number place) [
    | inl one ↦ elim (cases_eq of stamp) [
      | inl same ↦ inl (same_Some other entry
          (sym named ∙ (ap (λ n. at of (names_at tree n)) one ∙ (ap (λ k. at k (names_at tree place)) same
          ∙ (ap (at stamp) (names_before tree forest.numbered place old there dropped) ∙ has)))))
      | inr apart ↦ inr (drop_stays number of (λ at_place. apart) ∙ named)
    ]
    | inr elsewhere ↦ inr (drop_stays number of (λ at_place. absurd (elsewhere at_place)) ∙ named)
  ]

  pub drop_fewer : (number of : ℕ) (other : DirEntry) → at of (names_at then number) ≡ Some other → at of (names_at tree number) ≡ Some other
  drop_fewer number of other named = elim (cases_eq number place) [
    | inl one ↦ elim (cases_eq of stamp) [
      | inl same ↦ absurd (some≢none other (sym named ∙ (ap (λ n. at of (names_at then n)) one
          ∙ (ap (λ k. at k (names_at then place)) same ∙ drop_gone))))
      | inr apart ↦ sym (drop_stays number of (λ at_place. apart)) ∙ named
    ]
    | inr elsewhere ↦ sym (drop_stays number of (λ at_place. absurd (elsewhere at_place))) ∙ named
  ]

  -- Reached: as before, or from what lost its name
  reached_then : (start number : ℕ) → IsFrom tree start number → IsFrom then start number ⊎ IsFrom then entry.number number
  reached_then start _ Start = inl Start
  reached_then start _ (Named directory of other from named) = elim (drop_either directory of other named) [
    | inl same ↦ inr (subst (IsFrom then entry.number) (sym (ap (λ (e : DirEntry). e.number) same)) Start)
    | inr still ↦ elim (reached_then start directory from) [
      | inl is_from ↦ inl (Named directory of other is_from still)
      | inr is_from ↦ inr (Named directory of other is_from still)
    ]
  ]

  drop_reached : (number : ℕ) → is_key number then ≡ true
      → IsFrom then root number ⊎ ((from : ℕ) × (Some entry.number ≡ Some from) × IsFrom then from number)
  drop_reached number key =
      elim (reached_then root number (from_root tree number
      (forest.reached number (sym (same_key tree forest.numbered place old there dropped number) ∙ key)))) [
        | inl is_from ↦ inl is_from
        | inr is_from ↦ inr (entry.number, refl, is_from)
      ]

  drop_stamped : (of : ℕ) → stamped_in then of ≤ 1
  drop_stamped of =
      let sum : stamped_in then of + one_if (is_key of (names_of old.content)) ≡ stamped_in tree of + one_if (is_key of names)
      = sum_after tree forest.numbered place old there dropped (is_stamped of) in
      let before : stamped_in tree of ≤ 1 = forest.stamped of in
      elim (cases_eq of stamp) [
        | inl one ↦
            let none : one_if (is_key of names) ≡ 0
            = ap (λ k. one_if (is_key k names)) one ∙ ap (λ (o : Option DirEntry). one_if (is_some o)) (at-without_same (names_of old.content) stamp) in
            omega arith
        | inr apart ↦
            let same : one_if (is_key of names) ≡ one_if (is_key of (names_of old.content))
            = ap (λ (o : Option DirEntry). one_if (is_some o)) (at-without_other (names_of old.content) stamp of apart) in
            omega arith
      ]

  names_named : (of : ℕ) (other : DirEntry) → at of names ≡ Some other → first_refusal (name_refusals limits other.name) ≡ None
  names_named of other named = elim (cases_eq of stamp) [
    | inl one ↦ absurd (some≢none other (sym named ∙ (ap (λ k. at k names) one ∙ at-without_same (names_of old.content) stamp)))
    | inr apart ↦ old_names.named of other (sym (at-without_other (names_of old.content) stamp of apart) ∙ named)
  ]

  dropped_is_node : IsNode limits dropped
  dropped_is_node = record {
    entries = rw (kind_of_directory old.content is) at (forest.nodes place old there).entries;
    content = record {
      rising = IsAbove-without (names_of old.content) stamp 0 old_names.rising;
      named = names_named;
      once = λ name.
          let sum : times_named name names + one_if (bytes_eq name entry.name) ≡ times_named name (names_of old.content)
          = sum_of_names (λ (e : DirEntry). one_if (bytes_eq name e.name)) in
          let before : times_named name (names_of old.content) ≤ 1 = old_names.once name in
          omega arith;
    };
  }

  pub drop_forest : IsForest limits then (Some entry.number)
  drop_forest = record {
    numbered = numbered_after tree forest.numbered place old there dropped;
    rooted = same_directories tree forest.numbered place old there dropped (sym is) root ∙ forest.rooted;
    linked = drop_linked;
    reached = drop_reached;
    stamped = drop_stamped;
    nodes = which tree forest.numbered place old there dropped (λ number other. IsNode limits other) dropped_is_node forest.nodes;
  }

-- Small facts of numbers and links

not_owed : (tree : Tree) (number : ℕ) → at number tree ≡ None → links_owed tree number ≡ 0
not_owed tree number none = ap (λ (o : Option Node). one_if (is_some o && not (eqb number root))) none

root_not_owed : (tree : Tree) → links_owed tree root ≡ 0
root_not_owed tree = ap one_if (and_false (is_key root tree))

head_is_no_root : (limits : Limits) (tree : Tree) (head : ℕ) → IsForest limits tree (Some head) → head ≢ root
head_is_no_root limits tree head forest same =
    let here : links_to tree root + one_if (eqb head root) ≡ links_owed tree root = forest.linked root in
    let one : one_if (eqb head root) ≡ 1 = ap one_if (eq-eqb head root same) in
    let none = root_not_owed tree in
    absurd (omega arith)

-- from a node without names nothing else is reached
pub from_leaf : (tree : Tree) (start : ℕ) → names_at tree start ≡ [] → (number : ℕ) → IsFrom tree start number → number ≡ start
from_leaf tree start empty _ Start = refl
from_leaf tree start empty _ (Named directory stamp entry from has) =
    let same : directory ≡ start = from_leaf tree start empty directory from in
    absurd (some≢none entry (sym has ∙ (ap (λ n. at stamp (names_at tree n)) same ∙ ap (at stamp) empty)))

from_from : (tree : Tree) (first second third : ℕ) → IsFrom tree first second → IsFrom tree second third → IsFrom tree first third
from_from tree first second _ from Start = from
from_from tree first second _ from (Named directory stamp entry behind has) =
    Named directory stamp entry (from_from tree first second directory from behind) has

-- A node without names and without a name of its own is dropped

module _ (limits : Limits) (tree : Tree) (head : ℕ) (forest : IsForest limits tree (Some head)) (old : Node)
    (there : at head tree ≡ Some old) (empty : names_of old.content ≡ []) where
  abbrev pub freed : Tree
  freed = without tree head

  no_root : root ≢ head
  no_root same = head_is_no_root limits tree head forest (sym same)

  free_sum : (worth : Node → ℕ) → total worth freed + worth old ≡ total worth tree
  free_sum worth = rw there at (total-without worth tree head 0 forest.numbered)

  pub free_names : (number : ℕ) → names_at freed number ≡ names_at tree number
  free_names number = elim (cases_eq number head) [
    | inl one ↦ rw one (ap names_of_node (at-without_same tree head) ∙ (sym empty ∙ sym (ap names_of_node there)))
    | inr apart ↦ ap names_of_node (at-without_other tree head number apart)
  ]

  free_linked : (number : ℕ) → links_to freed number + 0 ≡ links_owed freed number
  free_linked number =
      let none : links_from number old ≡ 0 = ap (links_in number) empty in
      let sum : links_to freed number + links_from number old ≡ links_to tree number = free_sum (links_from number) in
      let before : links_to tree number + one_if (eqb head number) ≡ links_owed tree number = forest.linked number in
      elim (cases_eq number head) [
        | inl one ↦
            let owed : links_owed freed number ≡ 0 = not_owed freed number (ap (λ n. at n freed) one ∙ at-without_same tree head) in
            let is_one : one_if (eqb head number) ≡ 1 = ap one_if (eq-eqb head number (sym one)) in
            let most : links_owed tree number ≤ 1 = one_at_most (is_key number tree && not (eqb number root)) in
            omega arith
        | inr apart ↦
            let owed : links_owed freed number ≡ links_owed tree number
            = ap (λ (o : Option Node). one_if (is_some o && not (eqb number root))) (at-without_other tree head number apart) in
            let is_none : one_if (eqb head number) ≡ 0 = ap one_if (ne_eqb head number (λ same. apart (sym same))) in
            omega arith
      ]

  free_apart : (number : ℕ) → is_key number freed ≡ true → number ≢ head
  free_apart number key one = true≢none key (ap (λ n. is_key n freed) one ∙ ap is_some (at-without_same tree head))
    where
      true≢none : {b : Bool} → b ≡ true → b ≡ false → ⊥
      true≢none is not_so = cc

  free_reached : (number : ℕ) → is_key number freed ≡ true
      → IsFrom freed root number ⊎ ((from : ℕ) × (None ≡ Some from) × IsFrom freed from number)
  free_reached number key =
      let apart = free_apart number key in
      elim (forest.reached number (sym (ap is_some (at-without_other tree head number apart)) ∙ key)) [
        | inl is_from ↦ inl (from_more tree freed (λ of stamp entry has. ap (at stamp) (free_names of) ∙ has) root number is_from)
        | inr is_from ↦ absurd (apart (from_leaf tree is_from.0
            (ap (names_at tree) (sym (same_Some head is_from.0 is_from.1)) ∙ (ap names_of_node there ∙ empty)) number is_from.2
            ∙ sym (same_Some head is_from.0 is_from.1)))
      ]

  pub free_which : (P : ℕ → Node → Type 0) → ((number : ℕ) (other : Node) → at number tree ≡ Some other → P number other)
      → (number : ℕ) (other : Node) → at number freed ≡ Some other → P number other
  free_which P others number other has =
      others number other (sym (at-without_other tree head number (free_apart number (ap is_some has))) ∙ has)

  pub free_forest : IsForest limits freed None
  free_forest = record {
    numbered = IsAbove-without tree head 0 forest.numbered;
    rooted = ap is_directory_node (at-without_other tree head root no_root) ∙ forest.rooted;
    linked = free_linked;
    reached = free_reached;
    stamped = λ of.
        let sum : stamped_in freed of + is_stamped of old ≡ stamped_in tree of = free_sum (is_stamped of) in
        let before : stamped_in tree of ≤ 1 = forest.stamped of in
        omega arith;
    nodes = free_which (λ number other. IsNode limits other) forest.nodes;
  }

-- The head gets a name, in a directory that is not below it

module _ (limits : Limits) (tree : Tree) (head : ℕ) (forest : IsForest limits tree (Some head)) (place stamp : ℕ) (name : List ℕ) (old : Node)
    (there : at place tree ≡ Some old) (is : is_directory old.content ≡ true)
    (fresh : (number of : ℕ) (other : DirEntry) → at of (names_at tree number) ≡ Some other → of < stamp) (above : 0 < stamp)
    (allowed : first_refusal (name_refusals limits name) ≡ None) (new : times_named name (names_at tree place) ≡ 0)
    (apart_from : IsFrom tree head place → ⊥) where
  abbrev pub put_entry : DirEntry
  put_entry = record { name = name; number = head }

  abbrev pub put : Node
  put = name_put stamp put_entry old

  abbrev pub with_name : Tree
  with_name = with tree place put

  abbrev pub put_names : Keyed DirEntry
  put_names = with (names_of old.content) stamp put_entry

  names_old : AreNames limits (names_of old.content)
  names_old = names_of_directory limits old.content (forest.nodes place old there).content is

  unused_in : (number : ℕ) (other : Node) → at number tree ≡ Some other → at stamp (names_of other.content) ≡ None
  unused_in number other has = none_unless (at stamp (names_of other.content))
      (λ found named. lt_irrefl stamp (fresh number stamp found (ap (λ (o : Option Node). at stamp (names_of_node o)) has ∙ named)))

  unused : at stamp (names_of old.content) ≡ None
  unused = unused_in place old there

  pub put_sum : (worth : DirEntry → ℕ) → total worth put_names ≡ total worth (names_of old.content) + worth put_entry
  put_sum worth =
      let sum : total worth put_names + 0 ≡ total worth (names_of old.content) + worth put_entry
      = rw unused at (total-with worth (names_of old.content) stamp 0 put_entry names_old.rising) in
      omega arith

  put_linked : (number : ℕ) → links_to with_name number + 0 ≡ links_owed with_name number
  put_linked number =
      let nodes : links_to with_name number + links_from number old ≡ links_to tree number + links_from number put
      = sum_after tree forest.numbered place old there put (links_from number) in
      let of_names : links_from number put ≡ links_from number old + one_if (eqb head number)
      = put_sum (λ (e : DirEntry). one_if (eqb e.number number)) in
      let before : links_to tree number + one_if (eqb head number) ≡ links_owed tree number = forest.linked number in
      let owed = same_owed tree forest.numbered place old there put number in
      omega arith

  pub put_here : at stamp (names_at with_name place) ≡ Some put_entry
  put_here = ap (at stamp) (names_here tree forest.numbered place old there put) ∙ at-with_same (names_of old.content) stamp put_entry

  put_stays : (number of : ℕ) (other : DirEntry) → at of (names_at tree number) ≡ Some other → at of (names_at with_name number) ≡ Some other
  put_stays number of other named = elim (cases_eq number place) [
    | inl one ↦
        let here : at of (names_of old.content) ≡ Some other
        = sym (ap (at of) (names_before tree forest.numbered place old there put)) ∙ (sym (ap (λ n. at of (names_at tree n)) one) ∙ named) in
        let apart : of ≢ stamp = λ same. some≢none other (sym here ∙ (ap (λ k. at k (names_of old.content)) same ∙ unused)) in
        ap (λ n. at of (names_at with_name n)) one
        ∙ (ap (at of) (names_here tree forest.numbered place old there put)
        ∙ (at-with_other (names_of old.content) stamp of put_entry apart ∙ here))
    | inr elsewhere ↦ ap (at of) (names_elsewhere tree forest.numbered place old there put number elsewhere) ∙ named
  ]

  place_reached : IsFrom with_name root place
  place_reached = elim (forest.reached place (ap is_some there)) [
    | inl is_from ↦ from_more tree with_name put_stays root place is_from
    | inr is_from ↦ absurd (apart_from (subst (λ n. IsFrom tree n place) (sym (same_Some head is_from.0 is_from.1)) is_from.2))
  ]

  head_reached : IsFrom with_name root head
  head_reached = Named place stamp put_entry place_reached put_here

  put_reached : (number : ℕ) → is_key number with_name ≡ true
      → IsFrom with_name root number ⊎ ((from : ℕ) × (None ≡ Some from) × IsFrom with_name from number)
  put_reached number key =
      elim (forest.reached number (sym (same_key tree forest.numbered place old there put number) ∙ key)) [
        | inl is_from ↦ inl (from_more tree with_name put_stays root number is_from)
        | inr is_from ↦ inl (from_from with_name root head number head_reached
            (from_more tree with_name put_stays head number
            (subst (λ n. IsFrom tree n number) (sym (same_Some head is_from.0 is_from.1)) is_from.2)))
      ]

  put_stamped : (of : ℕ) → stamped_in with_name of ≤ 1
  put_stamped of =
      let sum : stamped_in with_name of + one_if (is_key of (names_of old.content)) ≡ stamped_in tree of + one_if (is_key of put_names)
      = sum_after tree forest.numbered place old there put (is_stamped of) in
      elim (cases_eq of stamp) [
        | inl one ↦
            let none : stamped_in tree of ≡ 0 = total-none (is_stamped of) tree 0 forest.numbered
            (λ number other has. ap (λ k. one_if (is_key k (names_of other.content))) one
            ∙ ap (λ (o : Option DirEntry). one_if (is_some o)) (unused_in number other has)) in
            let most : one_if (is_key of put_names) ≤ 1 = one_at_most (is_key of put_names) in
            omega arith
        | inr apart ↦
            let same : one_if (is_key of put_names) ≡ one_if (is_key of (names_of old.content))
            = ap (λ (o : Option DirEntry). one_if (is_some o)) (at-with_other (names_of old.content) stamp of put_entry apart) in
            let before : stamped_in tree of ≤ 1 = forest.stamped of in
            omega arith
      ]

  put_named : (of : ℕ) (other : DirEntry) → at of put_names ≡ Some other → first_refusal (name_refusals limits other.name) ≡ None
  put_named of other named = elim (cases_eq of stamp) [
    | inl one ↦
        let same : put_entry ≡ other = same_Some put_entry other
        (sym (at-with_same (names_of old.content) stamp put_entry) ∙ (sym (ap (λ k. at k put_names) one) ∙ named)) in
        subst (λ (e : DirEntry). first_refusal (name_refusals limits e.name) ≡ None) same allowed
    | inr apart ↦ names_old.named of other (sym (at-with_other (names_of old.content) stamp of put_entry apart) ∙ named)
  ]

  put_once : (of : List ℕ) → times_named of put_names ≤ 1
  put_once of =
      let sum : times_named of put_names ≡ times_named of (names_of old.content) + one_if (bytes_eq of name)
      = put_sum (λ (e : DirEntry). one_if (bytes_eq of e.name)) in
      elim (cases_Bool (bytes_eq of name)) [
        | inl yes_named ↦
            let none : times_named of (names_of old.content) ≡ 0
            = ap (λ n. times_named n (names_of old.content)) ((bytes_decides of name).0 yes_named)
            ∙ (sym (ap (times_named name) (names_before tree forest.numbered place old there put)) ∙ new) in
            let one : one_if (bytes_eq of name) ≡ 1 = ap one_if yes_named in
            omega arith
        | inr not_named ↦
            let zero_more : one_if (bytes_eq of name) ≡ 0 = ap one_if not_named in
            let before : times_named of (names_of old.content) ≤ 1 = names_old.once of in
            omega arith
      ]

  put_is_node : IsNode limits put
  put_is_node = record {
    entries = rw (kind_of_directory old.content is) at (forest.nodes place old there).entries;
    content = record {
      rising = IsAbove-with (names_of old.content) stamp 0 put_entry names_old.rising above;
      named = put_named;
      once = put_once;
    };
  }

  pub put_forest : IsForest limits with_name None
  put_forest = record {
    numbered = numbered_after tree forest.numbered place old there put;
    rooted = same_directories tree forest.numbered place old there put (sym is) root ∙ forest.rooted;
    linked = put_linked;
    reached = put_reached;
    stamped = put_stamped;
    nodes = which tree forest.numbered place old there put (λ number other. IsNode limits other) put_is_node forest.nodes;
  }

-- A new node without names, which is the head then

module _ (limits : Limits) (tree : Tree) (forest : IsForest limits tree None) (number : ℕ) (node : Node) (unused_number : at number tree ≡ None)
    (above_zero : 0 < number) (is_node : IsNode limits node) (without_names : names_of node.content ≡ []) where
  abbrev pub with_node : Tree
  with_node = with tree number node

  node_sum : (worth : Node → ℕ) → total worth with_node ≡ total worth tree + worth node
  node_sum worth =
      let sum : total worth with_node + 0 ≡ total worth tree + worth node
      = rw unused_number at (total-with worth tree number 0 node forest.numbered) in
      omega arith

  no_root_number : root ≢ number
  no_root_number same =
      let there = directory_at (at root tree) forest.rooted in
      some≢none there.0 (sym there.1 ∙ (ap (λ n. at n tree) same ∙ unused_number))

  node_linked : (of : ℕ) → links_to with_node of + one_if (eqb number of) ≡ links_owed with_node of
  node_linked of =
      let none : links_from of node ≡ 0 = ap (links_in of) without_names in
      let sum : links_to with_node of ≡ links_to tree of + links_from of node = node_sum (links_from of) in
      let before : links_to tree of + 0 ≡ links_owed tree of = forest.linked of in
      elim (cases_eq of number) [
        | inl one ↦
            let none_owed : links_owed tree of ≡ 0 = not_owed tree of (ap (λ n. at n tree) one ∙ unused_number) in
            let owed : links_owed with_node of ≡ 1
            = ap (links_owed with_node) one
            ∙ (ap (λ (o : Option Node). one_if (is_some o && not (eqb number root))) (at-with_same tree number node)
            ∙ ap (λ b. one_if (not b)) (ne_eqb number root (λ same. no_root_number (sym same)))) in
            let is_one : one_if (eqb number of) ≡ 1 = ap one_if (eq-eqb number of (sym one)) in
            omega arith
        | inr apart ↦
            let owed : links_owed with_node of ≡ links_owed tree of
            = ap (λ (o : Option Node). one_if (is_some o && not (eqb of root))) (at-with_other tree number of node apart) in
            let is_none : one_if (eqb number of) ≡ 0 = ap one_if (ne_eqb number of (λ same. apart (sym same))) in
            omega arith
      ]

  pub node_names : (of : ℕ) → names_at with_node of ≡ names_at tree of
  node_names of = elim (cases_eq of number) [
    | inl one ↦ rw one (ap names_of_node (at-with_same tree number node) ∙ (without_names ∙ sym (ap names_of_node unused_number)))
    | inr apart ↦ ap names_of_node (at-with_other tree number of node apart)
  ]

  node_reached : (of : ℕ) → is_key of with_node ≡ true
      → IsFrom with_node root of ⊎ ((from : ℕ) × (Some number ≡ Some from) × IsFrom with_node from of)
  node_reached of key = elim (cases_eq of number) [
    | inl one ↦ inr (number, refl, subst (IsFrom with_node number) (sym one) Start)
    | inr apart ↦ inl (from_more tree with_node (λ at_number stamp entry has. ap (at stamp) (node_names at_number) ∙ has) root of
        (from_root tree of (forest.reached of (sym (ap is_some (at-with_other tree number of node apart)) ∙ key))))
  ]

  pub node_which : (P : ℕ → Node → Type 0) → P number node → ((of : ℕ) (other : Node) → at of tree ≡ Some other → P of other)
      → (of : ℕ) (other : Node) → at of with_node ≡ Some other → P of other
  node_which P first others of other has = elim (cases_eq of number) [
    | inl one ↦
        let same : node ≡ other = same_Some node other (sym (at-with_same tree number node) ∙ (sym (ap (λ n. at n with_node) one) ∙ has)) in
        subst (λ n. P n other) (sym one) (subst (P number) same first)
    | inr apart ↦ others of other (sym (at-with_other tree number of node apart) ∙ has)
  ]

  pub node_forest : IsForest limits with_node (Some number)
  node_forest = record {
    numbered = IsAbove-with tree number 0 node forest.numbered above_zero;
    rooted = ap is_directory_node (at-with_other tree number root node no_root_number) ∙ forest.rooted;
    linked = node_linked;
    reached = node_reached;
    stamped = λ of.
        let none : is_stamped of node ≡ 0 = ap (λ names. one_if (is_key of names)) without_names in
        let sum : stamped_in with_node of ≡ stamped_in tree of + is_stamped of node = node_sum (is_stamped of) in
        let before : stamped_in tree of ≤ 1 = forest.stamped of in
        omega arith;
    nodes = node_which (λ of other. IsNode limits other) is_node forest.nodes;
  }

-- A node gets other metadata

module _ (limits : Limits) (tree : Tree) (head : Option ℕ) (forest : IsForest limits tree head) (place : ℕ) (old : Node)
    (there : at place tree ≡ Some old) (metadata : Metadata)
    (list_for : is_list_for limits.aces_set limits.aces (kind_of old.content) metadata.acl ≡ true) where
  abbrev pub shows : Node
  shows = showing metadata old

  abbrev pub with_metadata : Tree
  with_metadata = with tree place shows

  pub show_names : (number : ℕ) → names_at with_metadata number ≡ names_at tree number
  show_names number = elim (cases_eq number place) [
    | inl one ↦ rw one (names_here tree forest.numbered place old there shows ∙ sym (names_before tree forest.numbered place old there shows))
    | inr apart ↦ names_elsewhere tree forest.numbered place old there shows number apart
  ]

  show_from : (start number : ℕ) → IsFrom tree start number → IsFrom with_metadata start number
  show_from = from_more tree with_metadata (λ of stamp entry has. ap (at stamp) (show_names of) ∙ has)

  pub show_forest : IsForest limits with_metadata head
  show_forest = record {
    numbered = numbered_after tree forest.numbered place old there shows;
    rooted = same_directories tree forest.numbered place old there shows refl root ∙ forest.rooted;
    linked = λ number.
        let sum : links_to with_metadata number + links_from number old ≡ links_to tree number + links_from number old
        = sum_after tree forest.numbered place old there shows (links_from number) in
        let before : links_to tree number + is_head head number ≡ links_owed tree number = forest.linked number in
        let owed = same_owed tree forest.numbered place old there shows number in
        omega arith;
    reached = λ number key. elim (forest.reached number (sym (same_key tree forest.numbered place old there shows number) ∙ key)) [
      | inl is_from ↦ inl (show_from root number is_from)
      | inr is_from ↦ inr (is_from.0, is_from.1, show_from is_from.0 number is_from.2)
    ];
    stamped = λ of.
        let sum : stamped_in with_metadata of + is_stamped of old ≡ stamped_in tree of + is_stamped of old
        = sum_after tree forest.numbered place old there shows (is_stamped of) in
        let before : stamped_in tree of ≤ 1 = forest.stamped of in
        omega arith;
    nodes = which tree forest.numbered place old there shows (λ number other. IsNode limits other)
        (record { entries = list_for; content = (forest.nodes place old there).content }) forest.nodes;
  }

-- A node in place of one of its kind, with the same names

module _ (limits : Limits) (tree : Tree) (head : Option ℕ) (forest : IsForest limits tree head) (place : ℕ) (old : Node)
    (there : at place tree ≡ Some old) (new : Node) (is_node : IsNode limits new)
    (same_kind : is_directory new.content ≡ is_directory old.content) (same_names : names_of new.content ≡ names_of old.content) where
  abbrev pub replaced : Tree
  replaced = with tree place new

  pub replaced_names : (number : ℕ) → names_at replaced number ≡ names_at tree number
  replaced_names number = elim (cases_eq number place) [
    | inl one ↦ rw one (names_here tree forest.numbered place old there new
        ∙ (same_names ∙ sym (names_before tree forest.numbered place old there new)))
    | inr apart ↦ names_elsewhere tree forest.numbered place old there new number apart
  ]

  replaced_from : (start number : ℕ) → IsFrom tree start number → IsFrom replaced start number
  replaced_from = from_more tree replaced (λ of stamp entry has. ap (at stamp) (replaced_names of) ∙ has)

  pub replaced_forest : IsForest limits replaced head
  replaced_forest = record {
    numbered = numbered_after tree forest.numbered place old there new;
    rooted = same_directories tree forest.numbered place old there new same_kind root ∙ forest.rooted;
    linked = λ number.
        let same : links_from number new ≡ links_from number old = ap (links_in number) same_names in
        let sum : links_to replaced number + links_from number old ≡ links_to tree number + links_from number new
        = sum_after tree forest.numbered place old there new (links_from number) in
        let before : links_to tree number + is_head head number ≡ links_owed tree number = forest.linked number in
        let owed = same_owed tree forest.numbered place old there new number in
        omega arith;
    reached = λ number key. elim (forest.reached number (sym (same_key tree forest.numbered place old there new number) ∙ key)) [
      | inl is_from ↦ inl (replaced_from root number is_from)
      | inr is_from ↦ inr (is_from.0, is_from.1, replaced_from is_from.0 number is_from.2)
    ];
    stamped = λ of.
        let same : is_stamped of new ≡ is_stamped of old = ap (λ (names : Keyed DirEntry). one_if (is_key of names)) same_names in
        let sum : stamped_in replaced of + is_stamped of old ≡ stamped_in tree of + is_stamped of new
        = sum_after tree forest.numbered place old there new (is_stamped of) in
        let before : stamped_in tree of ≤ 1 = forest.stamped of in
        omega arith;
    nodes = which tree forest.numbered place old there new (λ number other. IsNode limits other) is_node forest.nodes;
  }
