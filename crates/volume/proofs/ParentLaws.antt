-- Over a change each node keeps its parent, except the node whose name is put.
use Rattle.std.proofs.Common.{◌≡◌, ◌≢◌, ◌≤◌, ◌<◌, ◌+◌, ℕ, Bool, true, false, List, [], ◌∷◌, Option, Some, None, length, set, eqb, ltb, refl, sym, ap, ◌∙◌, arith, inl, inr, ⊎_elim, subst, eq-eqb, ne_eqb}
use Rattle.std.proofs.lemmas.Bool.{cases_eq}
use Rattle.std.proofs.Math.Logic.{∥∥₁_elim}
use Rattle.std.proofs.Props.{props}
use Rattle.std.specs.List.{IsAmong}
use Rattle.std.proofs.lemmas.Option.{same_Some}
use Rattle.node_table.specs.Tables.{node_number, node_number_at, HasNoNode}
use Rattle.disk.specs.Moments.{Image}
use Rattle.tree_transaction.specs.Nodes.{no_content, metadata_of}
use Rattle.tree_edits.specs.declared.edit.Edit.{Edit}
use Rattle.tree_edits.specs.declared.edit.Edit.TheVariants as edit
use Rattle.tree_edits.specs.Doing.{made_by, AreMade}
use Rattle.tree_edits.specs.Edits.{edit_of, edits_of, fresh_node}
use Rattle.tree_edits.specs.Outlines.{without_data, tree_without_data}
use Rattle.tree_edits.proofs.BlankLaws.{names-without_data}
use Rattle.layout.specs.CachedNodes.{CachedNode, tree_of}
use Rattle.layout.specs.Known.{AreCached}
use Rattle.layout.specs.Marks.{once_if, times}
use Rattle.model_tree.specs.declared.limits.Limits.{Limits}
use Rattle.model_tree.specs.declared.node.NodeKind.{NodeKind}
use Rattle.model_tree.specs.declared.node.NodeKind.TheVariants as kind
use Rattle.model_tree.specs.Trees.Edit.{altered, altered_at, done, edited, name_put, name_dropped, showing, with_content, overwritten, resized}
use Rattle.model_tree.specs.Trees.Keyed.{Keyed, at, with, without, total, here_or, before_or_behind, in_place_of, kept_or_not}
use Rattle.model_tree.specs.Trees.Tree.{Tree, Node, DirEntry, File, bytes_of, names_of, names_of_node, names_at}
use Rattle.model_tree.specs.Trees.WellFormed.{links_in, links_from, one_if}
use Rattle.model_tree.proofs.Trees.KeyedLaws.{at-with_same, at-with_other, at-without_same, at-without_other}
use Rattle.volume.specs.ParentIndex.{HasChild, AreParents}
use Rattle.volume.proofs.ParentMoves.{KeepsNames, MovesName, each_kept, each_move}
use Rattle.volume.proofs.ParentLinks.{own-places, no_other}
use Rattle.volume.proofs.ParentTrees.{name_of_cached, cached_of_name}
use Rattle.tree_check.specs.Trees.{IsOneTree}
use Rattle.tree_check.proofs.TreeLaws.{find, Finds, There, Nowhere, numbered}
use Rattle.volume.specs.Edits.{edited_by, named_by, put_by, HasPut, IsChange}
use Rattle.volume.specs.Parents.{PutsParent}
use Rattle.volume.specs.Formed.{IsFormed}
use Rattle.volume.specs.VolumeState.{VolumeState}
use Rattle.volume.proofs.FormedLaws.{formed_tree}
use Rattle.volume.proofs.EditLaws.{one_number, edited_alike, outline_alike}

-- How much names come to, with one more and with one less

total-put : (worth : DirEntry → ℕ) (names : Keyed DirEntry) (stamp : ℕ) (entry : DirEntry) → total worth (with names stamp entry) ≤ total worth names + worth entry
total-put worth [] stamp entry = omega arith
total-put worth (first ∷ rest) stamp entry = by_key (total-put worth rest stamp entry) (eqb stamp first.0) (ltb stamp first.0)
  where
    by_key : total worth (with rest stamp entry) ≤ total worth rest + worth entry → (same less : Bool)
        → total worth (in_place_of same (stamp, entry) rest (before_or_behind less (stamp, entry) first rest (with rest stamp entry))) ≤ total worth (first ∷ rest) + worth entry
    by_key others true less = omega arith
    by_key others false true = omega arith
    by_key others false false = omega (arith, others)

total-dropped : (worth : DirEntry → ℕ) (names : Keyed DirEntry) (stamp : ℕ) → total worth (without names stamp) ≤ total worth names
total-dropped worth [] stamp = omega arith
total-dropped worth (first ∷ rest) stamp = by_key (total-dropped worth rest stamp) (eqb stamp first.0)
  where
    by_key : total worth (without rest stamp) ≤ total worth rest → (same : Bool) → total worth (kept_or_not same first (without rest stamp)) ≤ total worth (first ∷ rest)
    by_key others true = omega (arith, others)
    by_key others false = omega (arith, others)

total-at : (worth : DirEntry → ℕ) (names : Keyed DirEntry) (stamp : ℕ) (entry : DirEntry) → at stamp names ≡ Some entry → worth entry ≤ total worth names
total-at worth [] stamp entry is = absurd cc
total-at worth (first ∷ rest) stamp entry is = by_key (total-at worth rest stamp entry) (eqb stamp first.0) is
  where
    by_key : (at stamp rest ≡ Some entry → worth entry ≤ total worth rest) → (same : Bool) → here_or same first.1 (at stamp rest) ≡ Some entry → worth entry ≤ total worth (first ∷ rest)
    by_key others true found = (let one : first.1 ≡ entry = cc in let same : worth first.1 ≡ worth entry = ap worth one in omega (arith, same))
    by_key others false found = omega (arith, others found)

-- How many names of a node lead to a number

abbrev links_at : Tree → (of number : ℕ) → ℕ
links_at tree of number = links_in number (names_at tree of)

links_there : (of number : ℕ) (tree other : Tree) → at of tree ≡ at of other → links_at tree of number ≡ links_at other of number
links_there of number tree other same = ap (λ (node : Option Node). links_in number (names_of_node node)) same

links_node : (of number : ℕ) (tree : Tree) (node : Node) → at of tree ≡ Some node → links_at tree of number ≡ links_from number node
links_node of number tree node is = ap (λ (node : Option Node). links_in number (names_of_node node)) is

-- of one that is put
links_with : (tree : Tree) (key : ℕ) (node : Node) (of number : ℕ) → links_from number node ≤ links_at tree key number → links_at (with tree key node) of number ≤ links_at tree of number
links_with tree key node of number less = elim (cases_eq of key) [
  | inl same ↦
      let is : at of (with tree key node) ≡ Some node = ap (λ (k : ℕ). at k (with tree key node)) same ∙ at-with_same tree key node in
      let was : links_at tree of number ≡ links_at tree key number = ap (λ (k : ℕ). links_at tree k number) same in
      omega (arith, less, was, links_node of number (with tree key node) node is)
  | inr off ↦ omega (arith, links_there of number (with tree key node) tree (at-with_other tree key of node off))
]

links_without : (tree : Tree) (key of number : ℕ) → links_at (without tree key) of number ≤ links_at tree of number
links_without tree key of number = elim (cases_eq of key) [
  | inl same ↦
      let none : at of (without tree key) ≡ None = ap (λ (k : ℕ). at k (without tree key)) same ∙ at-without_same tree key in
      let zero_links : links_at (without tree key) of number ≡ 0 = ap (λ (node : Option Node). links_in number (names_of_node node)) none in
      omega (arith, zero_links)
  | inr off ↦ omega (arith, links_there of number (without tree key) tree (at-without_other tree key of off))
]

links_altered : (change : Node → Node) (tree : Tree) (key of number : ℕ) → ((node : Node) → links_from number (change node) ≤ links_from number node)
    → links_at (altered change tree key) of number ≤ links_at tree of number
links_altered change tree key of number less = by_node (at key tree) refl
  where
    by_node : (found : Option Node) → at key tree ≡ found → links_at (altered_at change tree key found) of number ≤ links_at tree of number
    by_node None is = omega arith
    by_node (Some node) is = links_with tree key (change node) of number (omega (arith, less node, links_node key number tree node is))

-- no edit except that which puts its name makes a name of a number

one_off : (a b : ℕ) → once_if (eqb b a) ≡ 0 → one_if (eqb a b) ≡ 0
one_off a b none = elim (cases_eq a b) [
  | inl same ↦ (let one : once_if (eqb b a) ≡ 1 = rw (eq-eqb b a (sym same)) refl in absurd (omega (arith, one, none)))
  | inr off ↦ (rw (ne_eqb a b off) refl)
]

fresh_links : (of : NodeKind) → (number : ℕ) → links_in number (names_of (no_content of)) ≡ 0
fresh_links kind.File number = refl
fresh_links kind.Directory number = refl

links_done : (one : Edit) (tree : Tree) (of number : ℕ) → times number (named_by (one ∷ [])) ≡ 0 → links_at (done (edit_of one) tree) of number ≤ links_at tree of number
links_done (edit.PutNode key kind shown) tree of number none = links_with tree key (fresh_node kind (metadata_of shown)) of number (omega (arith, fresh_links kind number))
links_done (edit.DropNode key) tree of number none = links_without tree key of number
links_done (edit.Show key shown) tree of number none = links_altered (showing (metadata_of shown)) tree key of number (λ node. omega arith)
links_done (edit.PutName directory stamp name leads) tree of number none =
    let entry : DirEntry = record { name = name.now; number = leads } in
    let off : one_if (eqb leads number) ≡ 0 = one_off leads number (omega (arith, none)) in
    links_altered (name_put stamp entry) tree directory of number (λ node. omega (arith, off, total-put (λ (e : DirEntry). one_if (eqb e.number number)) (names_of node.content) stamp entry))
links_done (edit.DropName directory stamp name) tree of number none =
    links_altered (name_dropped stamp) tree directory of number (λ node. total-dropped (λ (e : DirEntry). one_if (eqb e.number number)) (names_of node.content) stamp)
links_done (edit.PutBytes file offset bytes) tree of number none =
    links_altered (λ node. with_content node (File (overwritten (bytes_of node.content) offset bytes.now))) tree file of number (λ node. omega arith)
links_done (edit.SetSize file size) tree of number none =
    links_altered (λ node. with_content node (File (resized (bytes_of node.content) size))) tree file of number (λ node. omega arith)

named-prefix : (one : Edit) (edits : List Edit) (number : ℕ) → times number (named_by (one ∷ edits)) ≡ times number (named_by (one ∷ [])) + times number (named_by edits)
named-prefix (edit.PutNode key kind shown) edits number = omega arith
named-prefix (edit.DropNode key) edits number = omega arith
named-prefix (edit.Show key shown) edits number = omega arith
named-prefix (edit.PutName directory stamp name leads) edits number = omega arith
named-prefix (edit.DropName directory stamp name) edits number = omega arith
named-prefix (edit.PutBytes file offset bytes) edits number = omega arith
named-prefix (edit.SetSize file size) edits number = omega arith

links_edited : (edits : List Edit) (tree : Tree) (of number : ℕ) → times number (named_by edits) ≡ 0 → links_at (edited (edits_of edits) tree) of number ≤ links_at tree of number
links_edited [] tree of number none = omega arith
links_edited (one ∷ edits) tree of number none =
    let prefix = named-prefix one edits number in
    omega (arith, links_edited edits (done (edit_of one) tree) of number (omega (arith, none, prefix)), links_done one tree of number (omega (arith, none, prefix)))

-- The name that edits put

pub put_none : (edits : List Edit) → put_by edits ≡ None → named_by edits ≡ []
put_none [] none = refl
put_none (edit.PutNode key kind shown ∷ edits) none = put_none edits none
put_none (edit.DropNode key ∷ edits) none = put_none edits none
put_none (edit.Show key shown ∷ edits) none = put_none edits none
put_none (edit.PutName directory stamp name leads ∷ edits) none = absurd cc
put_none (edit.DropName directory stamp name ∷ edits) none = put_none edits none
put_none (edit.PutBytes file offset bytes ∷ edits) none = put_none edits none
put_none (edit.SetSize file size ∷ edits) none = put_none edits none

pair_is : (a b c d : ℕ) → (let one : Option (ℕ × ℕ) = Some (a, b) in one ≡ Some (c, d)) → (a ≡ c) × (b ≡ d)
pair_is a b c d is =
    let left : ℕ × ℕ = (a, b) in
    let right : ℕ × ℕ = (c, d) in
    let same : left ≡ right = same_Some left right is in
    (ap (λ (pair : ℕ × ℕ). pair.0) same, ap (λ (pair : ℕ × ℕ). pair.1) same)

-- its number is among those that are named, and the directory has it
record IsPut (tree : Tree) (edits : List Edit) (number directory : ℕ) : Type 0 where
  pub among : IsAmong (named_by edits) number
  pub leads : 0 < links_at tree directory number

put_some : (tree : Tree) (edits : List Edit) (number directory : ℕ) → put_by edits ≡ Some (number, directory) → HasPut tree edits → IsPut tree edits number directory
put_some tree [] number directory some has = absurd cc
put_some tree (edit.PutNode key kind shown ∷ edits) number directory some has = (let rest = put_some tree edits number directory some has in record { among = rest.among; leads = rest.leads })
put_some tree (edit.DropNode key ∷ edits) number directory some has = (let rest = put_some tree edits number directory some has in record { among = rest.among; leads = rest.leads })
put_some tree (edit.Show key shown ∷ edits) number directory some has = (let rest = put_some tree edits number directory some has in record { among = rest.among; leads = rest.leads })
put_some tree (edit.PutName of stamp name leads ∷ edits) number directory some has =
    let is = pair_is leads of number directory some in
    let entry : DirEntry = record { name = name.now; number = leads } in
    let one : one_if (eqb leads number) ≡ 1 = rw (eq-eqb leads number is.0) refl in
    let stands : links_at tree of number ≡ links_at tree directory number = ap (λ (k : ℕ). links_at tree k number) is.1 in
    record {
      among = (0, (omega arith, sym is.0));
      leads = omega (arith, one, stands, total-at (λ (e : DirEntry). one_if (eqb e.number number)) (names_at tree of) stamp entry has.0);
    }
put_some tree (edit.DropName of stamp name ∷ edits) number directory some has = (let rest = put_some tree edits number directory some has in record { among = rest.among; leads = rest.leads })
put_some tree (edit.PutBytes file offset bytes ∷ edits) number directory some has = (let rest = put_some tree edits number directory some has in record { among = rest.among; leads = rest.leads })
put_some tree (edit.SetSize file size ∷ edits) number directory some has = (let rest = put_some tree edits number directory some has in record { among = rest.among; leads = rest.leads })

others_none : (numbers : List ℕ) (number other : ℕ) → length numbers ≤ 1 → IsAmong numbers number → other ≢ number → times other numbers ≡ 0
others_none [] number other few among off = refl
others_none (first ∷ second ∷ rest) number other few among off = absurd (omega (arith, few))
others_none (first ∷ []) number other few among off =
    let first_is : first ≡ number = one_number (first ∷ []) few first number (0, (omega arith, refl)) among in
    let none : once_if (eqb other first) ≡ 0 = rw (ne_eqb other first (λ same. off (same ∙ first_is))) refl in
    omega (arith, none)

-- Over a change of cached nodes

module _ (held : VolumeState) (edits : List Edit) (change : IsChange held edits) (image : Image) (nodes : ℕ) (mark marked : ℕ → ℕ) (old new : List (Option CachedNode)) (tree_is : held.tree ≡ tree_of image old)
    (known : AreCached nodes mark old) (new_known : AreCached nodes marked new) (are_made : AreMade old new (made_by edits))
    (outline : tree_without_data new
    ≡ without_data (edited (edits_of edits) (tree_without_data old))) where
  -- the names of the outline are those of the tree after the edits
  links_new : (of number : ℕ) → links_at (tree_without_data new) of number ≡ links_at (edited (edits_of edits) (tree_without_data old)) of number
  links_new of number = ap (λ (tree : Tree). links_at tree of number) outline ∙ ap (links_in number) (names-without_data (edited (edits_of edits) (tree_without_data old)) of)

  links_behind : (of number : ℕ) → links_at (tree_without_data new) of number ≡ links_at (edited_by held edits) of number
  links_behind of number =
      let alike : without_data (tree_without_data old) ≡ without_data held.tree = outline_alike image old ∙ ap without_data (sym tree_is) in
      ap (λ (tree : Tree). links_at tree of number) (outline ∙ edited_alike (edits_of edits) held.tree (tree_without_data old) alike)
      ∙ ap (links_in number) (names-without_data (edited_by held edits) of)

  -- each name of another number was there
  name_was : (of number : ℕ) → times number (named_by edits) ≡ 0 → HasChild new of number → HasChild old of number
  name_was of number none has =
      let now = cached_of_name nodes marked new new_known (λ n. []) number of has in
      name_there (omega (arith, links_edited edits (tree_without_data old) of number none, links_new of number, links_node of number (tree_without_data new) now.0 now.1.0, now.1.1))
    where
      name_there : 0 < links_at (tree_without_data old) of number → HasChild old of number
      name_there some = by_node (at of (tree_without_data old)) refl some
        where
          by_node : (found : Option Node) → at of (tree_without_data old) ≡ found → 0 < links_in number (names_of_node found) → HasChild old of number
          by_node None is leads = absurd (omega (arith, leads))
          by_node (Some node) is leads = name_of_cached nodes mark old known (λ n. []) number of node is leads

  count_is : length new ≡ length old
  count_is = new_known.count ∙ sym known.count

  -- each other node was there
  node_was : (place number : ℕ) → node_number_at new place ≡ Some number → (IsAmong (named_by edits) number → ⊥) → node_number_at old place ≡ Some number
  node_was place number there off = ⊎_elim (λ (stood : node_number_at old place ≡ Some number). stood)
      (λ (among : IsAmong (made_by edits) number). absurd (⊎_elim
      (λ (none : made_by edits ≡ []). (let count : length (made_by edits) ≡ 0 = ap (λ (numbers : List ℕ). length numbers) none in (let ⊥_is : ⊥ = absurd (omega (arith, count, among.1.0)) in ⊥_is)))
      (λ (is : made_by edits ≡ named_by edits). off (subst (λ (numbers : List ℕ). IsAmong numbers number) is among))
      change.made))
      (are_made place number there)

  keeps_names : put_by edits ≡ None → KeepsNames old new
  keeps_names none =
      let empty = put_none edits none in
      let count : length (named_by edits) ≡ 0 = ap (λ (numbers : List ℕ). length numbers) empty in
      record {
        count = count_is;
        nodes = λ place number there. node_was place number there (λ among. omega (arith, count, among.1.0));
        names = λ of number has. name_was of number (ap (times number) empty) has;
      }

  module _ (number directory : ℕ) (some : put_by edits ≡ Some (number, directory)) where
    put_is : IsPut (edited_by held edits) edits number directory
    put_is = put_some (edited_by held edits) edits number directory some change.put

    name_put_there : HasChild new directory number
    name_put_there = by_node (at directory (tree_without_data new)) refl (omega (arith, links_behind directory number, put_is.leads))
      where
        by_node : (found : Option Node) → at directory (tree_without_data new) ≡ found → 0 < links_in number (names_of_node found) → HasChild new directory number
        by_node None is leads = absurd (omega (arith, leads))
        by_node (Some node) is leads = name_of_cached nodes marked new new_known (λ n. []) number directory node is leads

    moves_name : (place : ℕ) → node_number_at new place ≡ Some number → MovesName old new number place directory
    moves_name place there = record {
      count = count_is;
      node = there;
      name = name_put_there;
      nodes = λ other of off stands. node_was other of stands (λ among. off (one_number (named_by edits) change.named of number among put_is.among));
      names = λ of other off has. name_was of other (others_none (named_by edits) number other change.named put_is.among off) has;
    }

  module _ (limits : Limits) (stamp : ℕ) (formed : IsFormed limits stamp (tree_without_data new)) (parents : List ℕ) (are : AreParents old parents) where
    -- the cached nodes after it are one tree
    one_tree : ∥ IsOneTree new ∥₁
    one_tree = formed_tree limits stamp nodes marked new new_known formed

    parents_kept : put_by edits ≡ None → AreParents new parents
    parents_kept none = each_kept old new parents are (keeps_names none)

    parents_put : (number directory place : ℕ) → put_by edits ≡ Some (number, directory) → node_number_at new place ≡ Some number → AreParents new (set parents place directory)
    parents_put number directory place some there = ∥∥₁_elim one_tree (Prim.hlevel props)
        (λ tree. each_move old new parents number place directory are (own-places new new_known.apart) tree (moves_name number directory some place there))

    -- the number is a node's
    put_stands : (number directory : ℕ) → put_by edits ≡ Some (number, directory) → HasNoNode new number → ⊥
    put_stands number directory some lack = ∥∥₁_elim one_tree (Prim.hlevel props)
        (λ tree. (let name = name_put_there number directory some in no_other new tree number name.place lack name.leads))

    -- so it is for what is put at the place of the number
    pub parents_after : (behind : List ℕ) → PutsParent new parents behind (put_by edits) → AreParents new behind
    parents_after behind puts = by_put (put_by edits) refl
      where
        by_place : (number directory : ℕ) → put_by edits ≡ Some (number, directory) → Finds new number → AreParents new behind
        by_place number directory some (There place cached there is) =
            let stands : node_number_at new place ≡ Some number = ap node_number there ∙ ap Some is in
            subst (AreParents new) (sym (puts.some number directory place some stands)) (parents_put number directory place some stands)
        by_place number directory some (Nowhere none) = absurd (put_stands number directory some (λ place there. (let it = numbered new place number there in none place it.0 it.1.0 it.1.1)))

        by_put : (put : Option (ℕ × ℕ)) → put_by edits ≡ put → AreParents new behind
        by_put None is = subst (AreParents new) (sym (puts.none is)) (parents_kept is)
        by_put (Some put) is = by_place put.0 put.1 is (find new put.0)
