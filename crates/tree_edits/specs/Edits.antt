-- The edits of a change, and when each of them can be done.
use Rattle.std.specs.Prelude.{◌≡◌, ◌≤◌, ◌<◌, ◌+◌, ℕ, List, [], ◌∷◌, Option, Some, None, length}
use Rattle.std.specs.Prelude.{IsTrue, IsFalse}
use Rattle.std.specs.List.{AllByRecursion}
use Rattle.tree_edits.specs.Outlines.{without_data}
use Rattle.inode.specs.Fields.{Fields, IsAce}
use Rattle.tree_transaction.specs.Nodes.{no_content, metadata_of}
use Rattle.tree_edits.specs.declared.edit.Edit.{Edit}
use Rattle.tree_edits.specs.declared.edit.Edit.TheVariants as declared
use Rattle.model_tree.specs.declared.acl.Ace.{Ace}
use Rattle.model_tree.specs.declared.node.NodeKind.{NodeKind}
use Rattle.model_tree.specs.Trees.Charge.{few_names}
use Rattle.model_tree.specs.Trees.Edit.{PutNode, DropNode, Show, PutName, DropName, PutBytes, SetSize}
use Rattle.model_tree.specs.Trees.Edit.{Metadata, done}
use Rattle.model_tree.specs.Trees.Edit as model
use Rattle.model_tree.specs.Trees.Keyed.{at, is_key}
use Rattle.model_tree.specs.Trees.Tree.{Tree, Node, DirEntry, bytes_of, entry_of, names_at, is_directory_at}
use Rattle.directory.specs.declared.names.TheConstants.Names.{MAX_NAMES}

-- An edit of the code as one of the definition

abbrev pub fresh_node : NodeKind → Metadata → Node
fresh_node of metadata = record {
  owner = metadata.owner;
  group = metadata.group;
  acl = metadata.acl;
  change = metadata.change;
  time_modify = metadata.time_modify;
  content = no_content of;
}

abbrev pub fresh_fields : NodeKind → (number : ℕ) → Metadata → Fields
fresh_fields kind number metadata = record {
  kind = kind;
  number = number;
  owner = metadata.owner;
  group = metadata.group;
  change = metadata.change;
  time_modify = metadata.time_modify;
  size = 0;
  runs = 0;
  run_sectors = [];
  acl = metadata.acl;
}

abbrev pub edit_of : Edit → model.Edit
edit_of (declared.PutNode number kind metadata) = PutNode number
    (fresh_node kind (metadata_of metadata))
edit_of (declared.DropNode number) = DropNode number
edit_of (declared.Show number metadata) = Show number (metadata_of metadata)
edit_of (declared.PutName directory stamp name number) =
    PutName directory stamp (record { name = name.now; number = number })
edit_of (declared.DropName directory stamp name) = DropName directory stamp
edit_of (declared.PutBytes file offset bytes) = PutBytes file offset bytes.now
edit_of (declared.SetSize file size) = SetSize file size

abbrev pub edits_of : List Edit → List model.Edit
edits_of [] = []
edits_of (edit ∷ edits) = edit_of edit ∷ edits_of edits

-- What each requires of the tree before it

-- at most 72 entries, each of which can be encoded
pub record AreEntries (acl : List Ace) : Type 0 where
  pub few : length acl ≤ 72
  pub each : AllByRecursion IsAce acl

pub record IsNewNode (tree : Tree) (number : ℕ) (node : Node) : Type 0 where
  pub some : 0 < number
  pub fresh : at number tree ≡ None
  pub entries : AreEntries node.acl

pub record IsMetadata (tree : Tree) (number : ℕ) (metadata : Metadata) : Type 0 where
  pub there : IsTrue (is_key number tree)
  pub entries : AreEntries metadata.acl

-- a directory has neither the name nor the stamp
pub record IsNewName (tree : Tree) (directory stamp : ℕ) (entry : DirEntry) : Type 0 where
  pub there : IsTrue (is_directory_at tree directory)
  pub new_name : entry_of entry.name (names_at tree directory) ≡ None
  pub new_stamp : at stamp (names_at tree directory) ≡ None
  pub some : 0 < length entry.name
  pub short : length entry.name ≤ 255
  pub above : 0 < stamp

-- a directory has the name, under this stamp
pub record IsName (tree : Tree) (directory stamp : ℕ) (name : List ℕ) : Type 0 where
  pub there : IsTrue (is_directory_at tree directory)
  pub number : ℕ
  pub named : entry_of name (names_at tree directory)
      ≡ Some (stamp, record { name = name; number = number })

-- how many bytes a node has
abbrev pub size_of : Option Node → ℕ
size_of None = 0
size_of (Some node) = length (bytes_of node.content)

-- a file of at most 16,777,216 bytes, and an end that is no larger
pub record IsFileTo (tree : Tree) (file end : ℕ) : Type 0 where
  pub there : IsTrue (is_key file tree)
  pub is_file : IsFalse (is_directory_at tree file)
  pub small : size_of (at file tree) ≤ 16777216
  pub low : end ≤ 16777216

abbrev pub CanDo : Tree → Edit → Type 0
CanDo tree (declared.PutNode number kind metadata) =
    IsNewNode tree number (fresh_node kind (metadata_of metadata))
CanDo tree (declared.DropNode number) = IsTrue (is_key number tree)
CanDo tree (declared.Show number metadata) = IsMetadata tree number (metadata_of metadata)
CanDo tree (declared.PutName directory stamp name number) =
    IsNewName tree directory stamp (record { name = name.now; number = number })
CanDo tree (declared.DropName directory stamp name) = IsName tree directory stamp name.now
CanDo tree (declared.PutBytes file offset bytes) = IsFileTo tree file (offset + length bytes.now)
CanDo tree (declared.SetSize file size) = IsFileTo tree file size

-- each of them, in the tree after those before it
abbrev pub AreDoable : Tree → List Edit → Type 0
AreDoable tree [] = Unit {0}
AreDoable tree (edit ∷ edits) = CanDo tree edit × AreDoable (done (edit_of edit) tree) edits

-- and no directory has more than MAX_NAMES names after any of them
abbrev pub StayFew : Tree → List Edit → Type 0
StayFew tree [] = Unit {0}
StayFew tree (edit ∷ edits) = IsTrue (few_names MAX_NAMES (done (edit_of edit) tree))
    × StayFew (done (edit_of edit) tree) edits

-- what can be done to a tree can be done to any other with the same outline, and if directories
-- stay within MAX_NAMES names in the one, they do in the other
abbrev pub DoableAlike : Type 0
DoableAlike = (tree other : Tree) (edits : List Edit) → without_data other ≡ without_data tree
    → AreDoable tree edits → AreDoable other edits

abbrev pub FewAlike : Type 0
FewAlike = (tree other : Tree) (edits : List Edit) → without_data other ≡ without_data tree
    → StayFew tree edits → StayFew other edits
