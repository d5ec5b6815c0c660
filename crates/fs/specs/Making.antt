-- One more node and its name, whichever operation makes them.
use Rattle.std.specs.Prelude.{◌≡◌, ◌≤◌, ◌∷◌, [], ℕ, not, List, None}
use Rattle.tree_edits.specs.Outlines.{zeros}
use Rattle.layout.specs.CachedNodes.{CachedNode}
use Rattle.layout.specs.Known.{IsCached}
use Rattle.model_tree.specs.declared.node.NodeKind.{NodeKind}
use Rattle.model_tree.specs.declared.node.NodeKind.TheVariants as kind
use Rattle.model_tree.specs.declared.status.Status.TheVariants as status
use Rattle.model_tree.specs.Trees.Changes.{made_edits}
use Rattle.model_tree.specs.Trees.Charge.{fits}
use Rattle.model_tree.specs.Trees.Edit.{Metadata, edited}
use Rattle.model_tree.specs.Refusals.Name.{name_refusals}
use Rattle.model_tree.specs.Refusals.Refusal.{Refusals, first_refusal}
use Rattle.model_tree.specs.Trees.Stamp.{next_stamp, is_stamp_left}
use Rattle.model_tree.specs.Trees.Tree.{Tree, Node, Content, File, Directory, entry_of, names_at}
use Rattle.model_tree.specs.Trees.WellFormed.{IsNode}
use Rattle.volume.specs.Nodes.{IsNodeOf}
use Rattle.fs.specs.FileSystem.{FileSystem}

-- a file of zeros of this size, or a directory without names
abbrev pub first_content : NodeKind → (size : ℕ) → Content
first_content kind.File size = File (zeros size)
first_content kind.Directory size = Directory []

abbrev pub first_node : NodeKind → (size : ℕ) → Metadata → Node
first_node of size metadata = record {
  owner = metadata.owner;
  group = metadata.group;
  acl = metadata.acl;
  change = metadata.change;
  time_modify = metadata.time_modify;
  content = first_content of size;
}

-- the tests of each change of the tree, after all others: that there is room, and a stamp left
abbrev pub room_tests : FileSystem → (after : Tree) → Refusals
room_tests fs after = (not (fits fs.volume.limits after), status.NoSpc)
    ∷ (not (is_stamp_left fs.changes), status.ServerFault)
    ∷ []

-- one tree fits exactly if the other one does
abbrev pub AsRoomy : FileSystem → (after asked : Tree) → Type 0
AsRoomy fs after asked = fits fs.volume.limits after ≡ fits fs.volume.limits asked

-- what the next change leaves if it makes this node under a name
abbrev pub tree_with : FileSystem → (directory : ℕ) → (name : List ℕ) → Node → (now : ℕ) → Tree
tree_with fs directory name node now = edited
    (made_edits fs.volume.tree directory name node (next_stamp fs.volume.run fs.changes) now)
    fs.volume.tree

-- A node may be made: it may be in a tree of these limits, and the name in its directory
pub record MayBeMade (fs : FileSystem) (directory : ℕ) (name : List ℕ) (node : Node) : Type 0 where
  pub allowed : first_refusal (name_refusals fs.volume.limits name) ≡ None
  pub new : entry_of name (names_at fs.volume.tree directory) ≡ None
  pub is_node : IsNode fs.volume.limits node
  pub change : node.change ≡ next_stamp fs.volume.run fs.changes

-- a directory has no size
pub record IsSizeOf (of : NodeKind) (size : ℕ) : Type 0 where
  pub none : of ≡ kind.Directory → size ≡ 0
  pub low : size ≤ 16777216

-- the directory of this number, as its cached node shows it
pub record IsDirectoryOf (tree : Tree) (number : ℕ) (cached : CachedNode) : Type 0 where
  pub node : IsNodeOf tree number cached
  pub fit : IsCached cached
  pub directory : cached.fields.kind ≡ kind.Directory
