-- Nodes that are made, and the metadata of nodes.
use Rattle.std.specs.Prelude.{◌≡◌, ◌<◌, ℕ, List, [], Option, Some, None, slice_index_or}
use Rattle.inode.specs.declared.node.Form.{Form}
use Rattle.inode.specs.Fields.{Fields, IsInode}
use Rattle.model_tree.specs.declared.node.NodeKind.{NodeKind}
use Rattle.model_tree.specs.declared.node.NodeKind.TheVariants as kind
use Rattle.model_tree.specs.Trees.Edit.{Metadata}
use Rattle.model_tree.specs.Trees.Tree.{Node, Content, File, Directory}
use Rattle.layout.specs.CachedNodes.{CachedNode, node_with}
use Rattle.tree_transaction.specs.declared.nodes.Metadata as declared

-- a node without bytes or names

abbrev pub new_cached : Form → Fields → CachedNode
new_cached form fields = record {
  form = form;
  fields = record fields { size = 0; runs = 0; run_sectors = [] };
  runs = [];
  blocks = [];
  names = [];
}

pub record IsNewCached (cached_node : CachedNode) : Type 0 where
  pub is : cached_node ≡ new_cached cached_node.form cached_node.fields
  pub number : 0 < cached_node.fields.number
  pub fits : IsInode cached_node.form cached_node.fields

abbrev pub no_content : NodeKind → Content
no_content kind.File = File []
no_content kind.Directory = Directory []

abbrev pub new_node : CachedNode → Node
new_node cached_node = node_with cached_node.fields (no_content cached_node.fields.kind)

-- the metadata of a node

abbrev pub metadata_of : declared.Metadata → Metadata
metadata_of metadata = record {
  owner = metadata.owner;
  group = metadata.group;
  acl = metadata.acl;
  change = metadata.change;
  time_modify = metadata.time_modify;
}

abbrev pub fields_showing : Fields → Metadata → Fields
fields_showing fields metadata = record fields {
  owner = metadata.owner;
  group = metadata.group;
  acl = metadata.acl;
  change = metadata.change;
  time_modify = metadata.time_modify;
}

abbrev pub showing : Metadata → CachedNode → CachedNode
showing metadata cached_node = record cached_node
    { fields = fields_showing cached_node.fields metadata }

-- a node is at a place, and one that can have this metadata

pub record HasNode (cached_nodes : List (Option CachedNode)) (place : ℕ) : Type 0 where
  pub cached : CachedNode
  pub there : slice_index_or cached_nodes place None ≡ Some cached

pub record CanShow (cached_nodes : List (Option CachedNode)) (place : ℕ)
    (metadata : Metadata) : Type 0 where
  pub cached : CachedNode
  pub there : slice_index_or cached_nodes place None ≡ Some cached
  pub fits : IsInode cached.form (fields_showing cached.fields metadata)
