-- A tree with zeros for the bytes of its files has the same names and rights as the tree itself,
-- and edits of names leave the zeros.
use Rattle.std.proofs.Common.{◌≡◌, ◌≢◌, ℕ, Bool, false, List, Option, Some, None, refl, sym, ap, ap₂, ◌∙◌, is_some, inl, inr}
use Rattle.std.specs.Prelude.{option_map, ◌||◌}
use Rattle.std.proofs.lemmas.Bool.{cases_eq}
use Rattle.std.proofs.lemmas.Option.{same_Some}
use Rattle.tree_edits.specs.Outlines.{blank_node, without_data}
use Rattle.tree_edits.proofs.BlankLaws.{at-without_data, without_data-with, without_data-without}
use Rattle.tree_edits.proofs.BlankLaws.{names-without_data}
use Rattle.model_tree.specs.declared.acl.Cred.{Cred}
use Rattle.model_tree.specs.Rights.Acl.{delete, delete_child}
use Rattle.model_tree.specs.Trees.Changes.{touched}
use Rattle.model_tree.specs.Trees.Tree.{number_of_entry, Tree, Node, DirEntry, entry_of, names_at}
use Rattle.model_tree.specs.Trees.Edit.{Metadata, DropNode, Show, PutName, DropName, done, altered, altered_at, showing, with_content, name_put, name_dropped}
use Rattle.model_tree.specs.Trees.Keyed.{Keyed, at, with, without, is_key}
use Rattle.model.specs.Operations.Need.{granted_on}
use Rattle.model_tree.proofs.Trees.KeyedLaws.{at-with_same, at-with_other, at-without_other}
use Rattle.fs.specs.Removing.{may_remove}

-- Names and rights

pub granted-without_data : (tree : Tree) (number : ℕ) (cred : Cred) (mask : ℕ) → granted_on (at number (without_data tree)) cred mask ≡ granted_on (at number tree) cred mask
granted-without_data tree number cred mask = ap (λ (o : Option Node). granted_on o cred mask) (at-without_data tree number) ∙ mapped (at number tree)
  where
    mapped : (o : Option Node) → granted_on (option_map blank_node o) cred mask ≡ granted_on o cred mask
    mapped None = refl
    mapped (Some node) = refl

pub touched-without_data : (tree : Tree) (number stamp now : ℕ) → touched (at number (without_data tree)) stamp now ≡ touched (at number tree) stamp now
touched-without_data tree number stamp now = ap (λ (o : Option Node). touched o stamp now) (at-without_data tree number) ∙ mapped (at number tree)
  where
    mapped : (o : Option Node) → touched (option_map blank_node o) stamp now ≡ touched o stamp now
    mapped None = refl
    mapped (Some node) = refl

pub removable-without_data : (tree : Tree) (cred : Cred) (directory : ℕ) (name : List ℕ) → may_remove (without_data tree) cred directory name ≡ may_remove tree cred directory name
removable-without_data tree cred directory name =
    ap (λ (names : Keyed DirEntry). (granted_on (at (number_of_entry (entry_of name names)) (without_data tree)) cred delete)
    || (granted_on (at directory (without_data tree)) cred delete_child || false)) (names-without_data tree directory)
    ∙ ap₂ (λ (a b : Bool). a || (b || false)) (granted-without_data tree (number_of_entry (entry_of name (names_at tree directory))) cred delete)
    (granted-without_data tree directory cred delete_child)

-- Edits of names

-- a node of such a tree has zeros
node_flat : (tree : Tree) → without_data tree ≡ tree → (number : ℕ) (node : Node) → at number tree ≡ Some node → blank_node node ≡ node
node_flat tree flat number node is = same_Some (blank_node node) node
    (sym (ap (option_map blank_node) is) ∙ sym (at-without_data tree number) ∙ ap (at number) flat
    ∙ is)

pub flat_altered : (change : Node → Node) → ((node : Node) → blank_node node ≡ node → blank_node (change node) ≡ change node)
    → (tree : Tree) → without_data tree ≡ tree → (number : ℕ) → without_data (altered change tree number) ≡ altered change tree number
flat_altered change keeps tree flat number = by_node (at number tree) refl
  where
    by_node : (o : Option Node) → at number tree ≡ o → without_data (altered_at change tree number o) ≡ altered_at change tree number o
    by_node None is = flat
    by_node (Some node) is = without_data-with tree number (change node)
        ∙ ap₂ (λ (t : Tree) (one : Node). with t number one) flat (keeps node (node_flat tree flat number node is))

pub flat_metadata : (tree : Tree) → without_data tree ≡ tree → (number : ℕ) (metadata : Metadata) → without_data (done (Show number metadata) tree) ≡ done (Show number metadata) tree
flat_metadata tree flat number metadata = flat_altered (showing metadata) (λ node same. ap (λ (n : Node). with_content (showing metadata node) n.content) same) tree flat number

pub flat_name_dropped : (tree : Tree) → without_data tree ≡ tree → (number stamp : ℕ) → without_data (done (DropName number stamp) tree) ≡ done (DropName number stamp) tree
flat_name_dropped tree flat number stamp = flat_altered (name_dropped stamp) (λ node same. refl) tree flat number

pub flat_name_put : (tree : Tree) → without_data tree ≡ tree → (number stamp : ℕ) (entry : DirEntry) → without_data (done (PutName number stamp entry) tree) ≡ done (PutName number stamp entry) tree
flat_name_put tree flat number stamp entry = flat_altered (name_put stamp entry) (λ node same. refl) tree flat number

pub flat_node_dropped : (tree : Tree) → without_data tree ≡ tree → (number : ℕ) → without_data (done (DropNode number) tree) ≡ done (DropNode number) tree
flat_node_dropped tree flat number = without_data-without tree number ∙ ap (λ (t : Tree). without t number) flat

-- Numbers after edits

pub key-altered : (change : Node → Node) (tree : Tree) (number other : ℕ) → is_key other (altered change tree number) ≡ is_key other tree
key-altered change tree number other = by_node (at number tree) refl
  where
    by_node : (o : Option Node) → at number tree ≡ o → is_key other (altered_at change tree number o) ≡ is_key other tree
    by_node None is = refl
    by_node (Some node) is = elim (cases_eq other number) [
      | inl same ↦ ap (λ (n : ℕ). is_key n (with tree number (change node))) same ∙ ap is_some (at-with_same tree number (change node))
          ∙ sym (ap is_some is) ∙ ap (λ (n : ℕ). is_key n tree) (sym same)
      | inr apart ↦ ap is_some (at-with_other tree number other (change node) apart)
    ]

pub key-dropped : (tree : Tree) (number other : ℕ) → other ≢ number → is_key other (without tree number) ≡ is_key other tree
key-dropped tree number other apart = ap is_some (at-without_other tree number other apart)
