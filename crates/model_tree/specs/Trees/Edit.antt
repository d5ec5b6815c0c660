-- Edits of the tree: every change is a list of them, and each is one change of the tree's maps.
use Rattle.std.specs.Prelude.{ℕ, List, [], ◌∷◌, ◌++◌, Option, Some, None, ◌+◌, ◌-◌, length, take, drop, replicate}
use Rattle.model_tree.specs.declared.acl.Ace.{Ace}
use Rattle.model_tree.specs.Trees.Keyed.{at, with, without}
use Rattle.model_tree.specs.Trees.Tree.{Tree, Node, Content, File, Directory, DirEntry, names_of, bytes_of}

-- a node's metadata: all of it except the content
pub record Metadata : Type 0 where
  pub owner : ℕ
  pub group : ℕ
  pub acl : List Ace
  pub change : ℕ
  pub time_modify : ℕ

pub data Edit : Type 0 where
  PutNode : (number : ℕ) → Node → Edit
  DropNode : (number : ℕ) → Edit
  Show : (number : ℕ) → Metadata → Edit
  PutName : (directory stamp : ℕ) → DirEntry → Edit
  DropName : (directory stamp : ℕ) → Edit
  PutBytes : (file offset : ℕ) → List ℕ → Edit
  SetSize : (file size : ℕ) → Edit

-- bytes truncated or extended with zeros to a size, and bytes with a part of them overwritten
abbrev pub resized : List ℕ → (size : ℕ) → List ℕ
resized bytes size = take size bytes ++ replicate (size - length bytes) 0

abbrev pub overwritten : List ℕ → (offset : ℕ) → (part : List ℕ) → List ℕ
overwritten bytes offset part = resized bytes offset ++ (part ++ drop (offset + length part) bytes)

-- a node with other metadata, and one with other content
abbrev pub showing : Metadata → Node → Node
showing metadata node = record {
  owner = metadata.owner;
  group = metadata.group;
  acl = metadata.acl;
  change = metadata.change;
  time_modify = metadata.time_modify;
  content = node.content;
}

abbrev pub with_content : Node → Content → Node
with_content node content = record node { content = content }

abbrev pub name_put : (stamp : ℕ) → DirEntry → Node → Node
name_put stamp entry node = with_content node (Directory (with (names_of node.content) stamp entry))

abbrev pub name_dropped : (stamp : ℕ) → Node → Node
name_dropped stamp node = with_content node (Directory (without (names_of node.content) stamp))

-- the tree with the node of this number changed, if there is one
abbrev pub altered_at : (Node → Node) → Tree → (number : ℕ) → Option Node → Tree
altered_at change tree number None = tree
altered_at change tree number (Some node) = with tree number (change node)

abbrev pub altered : (Node → Node) → Tree → (number : ℕ) → Tree
altered change tree number = altered_at change tree number (at number tree)

abbrev pub done : Edit → Tree → Tree
done (PutNode number node) tree = with tree number node
done (DropNode number) tree = without tree number
done (Show number metadata) tree = altered (showing metadata) tree number
done (PutName directory stamp entry) tree = altered (name_put stamp entry) tree directory
done (DropName directory stamp) tree = altered (name_dropped stamp) tree directory
done (PutBytes file offset part) tree =
    altered (λ node. with_content node (File (overwritten (bytes_of node.content) offset part)))
    tree file
done (SetSize file size) tree =
    altered (λ node. with_content node (File (resized (bytes_of node.content) size))) tree file

abbrev pub edited : List Edit → Tree → Tree
edited [] tree = tree
edited (edit ∷ edits) tree = edited edits (done edit tree)
