-- The size of a node after an edit that changes it, and what stays.
use Rattle.std.proofs.Common.{◌≡◌, ◌≢◌, ◌+◌, ◌-◌, ◌⊎◌, ℕ, Option, Some, None, length, refl, sym, ap, ◌∙◌, arith, inl, inr, subst}
use Rattle.std.proofs.lemmas.Bool.{cases_eq}
use Rattle.std.specs.Prelude.{option_map, IsTrue, IsFalse}
use Rattle.tree_transaction.specs.Nodes.{no_content, metadata_of}
use Rattle.tree_edits.specs.declared.edit.Edit.{Edit}
use Rattle.tree_edits.specs.declared.edit.Edit.TheVariants as declared
use Rattle.tree_edits.specs.declared.room.Size.{Size}
use Rattle.tree_edits.specs.Edits.{edit_of, fresh_node}
use Rattle.tree_edits.specs.Measures.{CanMeasure}
use Rattle.tree_edits.specs.Sizes.{size_of_content, size_there, size_at, charge_of_size, nodes_in, names_in, edited_number, resized_by}
use Rattle.tree_edits.proofs.BlankLaws.{overwritten-length}
use Rattle.tree_edits.proofs.ChangeLaws.{ChangesOne, change_with, change_without, change_altered, at_altered, stamp_there}
use Rattle.tree_edits.proofs.KeyLaws.{Rises, rises_with, rises_without, total_without, length_with}
use Rattle.model_tree.specs.declared.node.NodeKind.{NodeKind}
use Rattle.model_tree.specs.declared.node.NodeKind.TheVariants as kind
use Rattle.model_tree.specs.Trees.Charge.{charge}
use Rattle.model_tree.specs.Trees.Edit.{done, showing, name_put, name_dropped, with_content, overwritten, resized}
use Rattle.model_tree.specs.Trees.Keyed.{Keyed, at, with, without, total, worth_at}
use Rattle.model_tree.specs.Trees.Tree.{Tree, Node, Content, File, Directory, DirEntry, names_of, names_at, names_of_node, bytes_of, is_directory, is_directory_node}
use Rattle.model_tree.proofs.Trees.KeyedLaws.{at-with_same, at-without_same}
use Rattle.model_tree.proofs.Trees.NodeChangeLaws.{length-resized}
use Rattle.model_tree.proofs.Trees.KeyedParts.{total-ones}

-- What a size says about a node

pub charge_there : (found : Option Node) → worth_at charge found ≡ charge_of_size (size_there found)
charge_there None = refl
charge_there (Some node) = by_content node.content
  where
    by_content : (content : Content) → charge (with_content node content) ≡ charge_of_size (Some (size_of_content content))
    by_content (File bytes) = refl
    by_content (Directory names) = refl

pub node_there : (found : Option Node) → worth_at (λ (node : Node). 1) found ≡ nodes_in (size_there found)
node_there None = refl
node_there (Some node) = refl

pub names_there : (found : Option Node) → length (names_of_node found) ≡ names_in (size_there found)
names_there None = refl
names_there (Some node) = by_content node.content
  where
    by_content : (content : Content) → length (names_of content) ≡ names_in (Some (size_of_content content))
    by_content (File bytes) = refl
    by_content (Directory names) = refl

-- The numbers of a tree rise, and so do the stamps of each directory
pub record IsRising (tree : Tree) : Type 0 where
  pub rises : Rises tree
  pub names : (number : ℕ) → Rises (names_at tree number)

-- An edit changes one node, as the size of that node determines
pub record Behind (tree : Tree) (edit : Edit) : Type 0 where
  pub one : ChangesOne (edited_number edit) tree (done (edit_of edit) tree)
  pub size : size_at (done (edit_of edit) tree) (edited_number edit) ≡ resized_by edit (size_at tree (edited_number edit))
  pub names : Rises (names_at (done (edit_of edit) tree) (edited_number edit))

fresh_size : (of : NodeKind) → size_of_content (no_content of) ≡ record { kind = of; count = 0 }
fresh_size kind.File = refl
fresh_size kind.Directory = refl

fresh_names : (of : NodeKind) → Rises (names_of (no_content of))
fresh_names kind.File = tt
fresh_names kind.Directory = tt

abbrev directory_of : ℕ → Option Size
directory_of count = Some (record { kind = kind.Directory; count = count })

abbrev file_of : ℕ → Option Size
file_of count = Some (record { kind = kind.File; count = count })

-- a name is removed from a node's
name_less : (names : Keyed DirEntry) (stamp : ℕ) → Rises names → worth_at (λ (entry : DirEntry). 1) (at stamp names) ≡ 1 → length (without names stamp) ≡ length names - 1
name_less names stamp rising once =
    let one : DirEntry → ℕ = λ entry. 1 in
    omega (arith, total_without one names stamp rising, once, total-ones names, total-ones (without names stamp))

changed_one : (tree : Tree) (edit : Edit) → CanMeasure tree edit → Rises tree → ChangesOne (edited_number edit) tree (done (edit_of edit) tree)
changed_one tree (declared.PutNode number of metadata) can rises = change_with tree number (fresh_node of (metadata_of metadata)) rises
changed_one tree (declared.DropNode number) can rises = change_without tree number rises
changed_one tree (declared.Show number metadata) can rises = change_altered (showing (metadata_of metadata)) tree number rises
changed_one tree (declared.PutName directory stamp name number) can rises = change_altered (name_put stamp (record { name = name.now; number = number })) tree directory rises
changed_one tree (declared.DropName directory stamp name) can rises = change_altered (name_dropped stamp) tree directory rises
changed_one tree (declared.PutBytes file offset bytes) can rises =
    change_altered (λ node. with_content node (File (overwritten (bytes_of node.content) offset bytes.now))) tree file rises
changed_one tree (declared.SetSize file size) can rises =
    change_altered (λ node. with_content node (File (resized (bytes_of node.content) size))) tree file rises

new_size : (tree : Tree) (edit : Edit) → CanMeasure tree edit → IsRising tree → size_at (done (edit_of edit) tree) (edited_number edit) ≡ resized_by edit (size_at tree (edited_number edit))
new_size tree (declared.PutNode number of metadata) can rising =
    ap size_there (at-with_same tree number (fresh_node of (metadata_of metadata))) ∙ ap (λ (size : Size). Some size) (fresh_size of)
new_size tree (declared.DropNode number) can rising = ap size_there (at-without_same tree number)
new_size tree (declared.Show number metadata) can rising = ap size_there (at_altered (showing (metadata_of metadata)) tree number) ∙ by_node (at number tree)
  where
    by_node : (found : Option Node) → size_there (option_map (showing (metadata_of metadata)) found) ≡ size_there found
    by_node None = refl
    by_node (Some node) = refl
new_size tree (declared.PutName directory stamp name number) can rising =
    ap size_there (at_altered (name_put stamp (record { name = name.now; number = number })) tree directory) ∙ by_node (at directory tree) can.there (rising.names directory) can.new_stamp
  where
    by_content : (content : Content) → IsTrue (is_directory content) → Rises (names_of content) → at stamp (names_of content) ≡ None
        → directory_of (length (with (names_of content) stamp (record { name = name.now; number = number }))) ≡ resized_by (declared.PutName directory stamp name number) (Some (size_of_content content))
    by_content (File bytes) is rises new = absurd cc
    by_content (Directory names) is rises new = ap directory_of (length_with names stamp (record { name = name.now; number = number }) rises new)

    by_node : (found : Option Node) → IsTrue (is_directory_node found) → Rises (names_of_node found) → at stamp (names_of_node found) ≡ None
        → size_there (option_map (name_put stamp (record { name = name.now; number = number })) found) ≡ resized_by (declared.PutName directory stamp name number) (size_there found)
    by_node None is rises new = refl
    by_node (Some node) is rises new = by_content node.content is rises new
new_size tree (declared.DropName directory stamp name) can rising =
    ap size_there (at_altered (name_dropped stamp) tree directory)
    ∙ by_node (at directory tree) can.there (rising.names directory) (stamp_there name.now (names_at tree directory) stamp (record { name = name.now; number = can.number }) can.named)
  where
    by_content : (content : Content) → IsTrue (is_directory content) → Rises (names_of content) → worth_at (λ (entry : DirEntry). 1) (at stamp (names_of content)) ≡ 1
        → directory_of (length (without (names_of content) stamp)) ≡ resized_by (declared.DropName directory stamp name) (Some (size_of_content content))
    by_content (File bytes) is rises once = absurd cc
    by_content (Directory names) is rises once = ap directory_of (name_less names stamp rises once)

    by_node : (found : Option Node) → IsTrue (is_directory_node found) → Rises (names_of_node found) → worth_at (λ (entry : DirEntry). 1) (at stamp (names_of_node found)) ≡ 1
        → size_there (option_map (name_dropped stamp) found) ≡ resized_by (declared.DropName directory stamp name) (size_there found)
    by_node None is rises once = refl
    by_node (Some node) is rises once = by_content node.content is rises once
new_size tree (declared.PutBytes file offset bytes) can rising =
    ap size_there (at_altered (λ node. with_content node (File (overwritten (bytes_of node.content) offset bytes.now))) tree file) ∙ by_node (at file tree) can
  where
    by_content : (content : Content) → IsFalse (is_directory content)
        → file_of (length (overwritten (bytes_of content) offset bytes.now)) ≡ resized_by (declared.PutBytes file offset bytes) (Some (size_of_content content))
    by_content (File old) is = ap file_of (omega (arith, overwritten-length old bytes.now offset))
    by_content (Directory names) is = absurd cc

    by_node : (found : Option Node) → IsFalse (is_directory_node found)
        → size_there (option_map (λ node. with_content node (File (overwritten (bytes_of node.content) offset bytes.now))) found) ≡ resized_by (declared.PutBytes file offset bytes) (size_there found)
    by_node None is = refl
    by_node (Some node) is = by_content node.content is
new_size tree (declared.SetSize file size) can rising =
    ap size_there (at_altered (λ node. with_content node (File (resized (bytes_of node.content) size))) tree file) ∙ by_node (at file tree)
  where
    by_node : (found : Option Node)
        → size_there (option_map (λ node. with_content node (File (resized (bytes_of node.content) size))) found) ≡ resized_by (declared.SetSize file size) (size_there found)
    by_node None = refl
    by_node (Some node) = ap file_of (length-resized (bytes_of node.content) size)

new_names : (tree : Tree) (edit : Edit) → CanMeasure tree edit → IsRising tree → Rises (names_at (done (edit_of edit) tree) (edited_number edit))
new_names tree (declared.PutNode number of metadata) can rising =
    subst (λ (found : Option Node). Rises (names_of_node found)) (sym (at-with_same tree number (fresh_node of (metadata_of metadata)))) (fresh_names of)
new_names tree (declared.DropNode number) can rising = subst (λ (found : Option Node). Rises (names_of_node found)) (sym (at-without_same tree number)) tt
new_names tree (declared.Show number metadata) can rising =
    subst (λ (found : Option Node). Rises (names_of_node found)) (sym (at_altered (showing (metadata_of metadata)) tree number)) (by_node (at number tree) (rising.names number))
  where
    by_node : (found : Option Node) → Rises (names_of_node found) → Rises (names_of_node (option_map (showing (metadata_of metadata)) found))
    by_node None rises = tt
    by_node (Some node) rises = rises
new_names tree (declared.PutName directory stamp name number) can rising =
    subst (λ (found : Option Node). Rises (names_of_node found)) (sym (at_altered (name_put stamp (record { name = name.now; number = number })) tree directory))
    (by_node (at directory tree) (rising.names directory))
  where
    by_node : (found : Option Node) → Rises (names_of_node found) → Rises (names_of_node (option_map (name_put stamp (record { name = name.now; number = number })) found))
    by_node None rises = tt
    by_node (Some node) rises = rises_with (names_of node.content) stamp (record { name = name.now; number = number }) rises
new_names tree (declared.DropName directory stamp name) can rising =
    subst (λ (found : Option Node). Rises (names_of_node found)) (sym (at_altered (name_dropped stamp) tree directory)) (by_node (at directory tree) (rising.names directory))
  where
    by_node : (found : Option Node) → Rises (names_of_node found) → Rises (names_of_node (option_map (name_dropped stamp) found))
    by_node None rises = tt
    by_node (Some node) rises = rises_without (names_of node.content) stamp rises
new_names tree (declared.PutBytes file offset bytes) can rising =
    subst (λ (found : Option Node). Rises (names_of_node found))
    (sym (at_altered (λ node. with_content node (File (overwritten (bytes_of node.content) offset bytes.now))) tree file)) (by_node (at file tree))
  where
    by_node : (found : Option Node) → Rises (names_of_node (option_map (λ node. with_content node (File (overwritten (bytes_of node.content) offset bytes.now))) found))
    by_node None = tt
    by_node (Some node) = tt
new_names tree (declared.SetSize file size) can rising =
    subst (λ (found : Option Node). Rises (names_of_node found)) (sym (at_altered (λ node. with_content node (File (resized (bytes_of node.content) size))) tree file)) (by_node (at file tree))
  where
    by_node : (found : Option Node) → Rises (names_of_node (option_map (λ node. with_content node (File (resized (bytes_of node.content) size))) found))
    by_node None = tt
    by_node (Some node) = tt

pub behind : (tree : Tree) (edit : Edit) → CanMeasure tree edit → IsRising tree → Behind tree edit
behind tree edit can rising = record { one = changed_one tree edit can rising.rises; size = new_size tree edit can rising; names = new_names tree edit can rising }

pub still_rising : (tree : Tree) (edit : Edit) → CanMeasure tree edit → IsRising tree → IsRising (done (edit_of edit) tree)
still_rising tree edit can rising =
    let it = behind tree edit can rising in
    record { rises = it.one.rises; names = λ number. by_number number (cases_eq number (edited_number edit)) }
  where
    by_number : (number : ℕ) → (number ≡ edited_number edit) ⊎ (number ≢ edited_number edit) → Rises (names_at (done (edit_of edit) tree) number)
    by_number number (inl same) = (let it = behind tree edit can rising in subst (λ (n : ℕ). Rises (names_at (done (edit_of edit) tree) n)) (sym same) it.names)
    by_number number (inr off) = (let it = behind tree edit can rising in subst (λ (found : Option Node). Rises (names_of_node found)) (sym (it.one.other number off)) (rising.names number))

-- and what it takes changes as that node's does
pub charge_behind : (tree : Tree) (edit : Edit) → CanMeasure tree edit → IsRising tree
    → total charge (done (edit_of edit) tree) + charge_of_size (size_at tree (edited_number edit)) ≡ total charge tree + charge_of_size (resized_by edit (size_at tree (edited_number edit)))
charge_behind tree edit can rising =
    let it = behind tree edit can rising in
    omega (arith, it.one.sum charge, charge_there (at (edited_number edit) tree), charge_there (at (edited_number edit) (done (edit_of edit) tree)), ap charge_of_size it.size)

pub nodes_behind : (tree : Tree) (edit : Edit) → CanMeasure tree edit → IsRising tree
    → length (done (edit_of edit) tree) + nodes_in (size_at tree (edited_number edit)) ≡ length tree + nodes_in (resized_by edit (size_at tree (edited_number edit)))
nodes_behind tree edit can rising =
    let it = behind tree edit can rising in
    omega (
      arith,
      it.one.sum (λ node. 1),
      node_there (at (edited_number edit) tree),
      node_there (at (edited_number edit) (done (edit_of edit) tree)),
      ap nodes_in it.size,
      total-ones tree,
      total-ones (done (edit_of edit) tree),
    )
