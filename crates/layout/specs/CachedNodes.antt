-- The nodes of a volume, and its tree, as functions of what its sectors hold, whatever that is.
-- Each place of the node table holds a node or is free. A cached node is what is read of a node:
-- everything except the bytes of a file.
use Rattle.std.specs.Prelude.{◌+◌, ◌-◌, ◌/◌, ◌%◌, ◌==◌, ◌++◌, ℕ, List, [], ◌∷◌, Option, Some, None, min, map, slice_index, slice_index_or, if◌then◌else◌}
use Rattle.std.specs.List.{range_with_len}
use Rattle.disk.specs.Moments.{Image}
use Rattle.model_tree.specs.declared.node.NodeKind.{NodeKind}
use Rattle.model_tree.specs.declared.node.NodeKind.TheVariants as kind
use Rattle.model_tree.specs.Trees.Charge.{blocks_of}
use Rattle.model_tree.specs.Trees.Keyed.{with}
use Rattle.model_tree.specs.Trees.Tree.{Tree, Node, Content, File, Directory}
use Rattle.inode.specs.declared.node.Form.{Form}
use Rattle.inode.specs.Fields.{Fields}
use Rattle.inode.specs.Reading.{fields_in, form_in}
use Rattle.extents.specs.declared.run.Run.{Run}
use Rattle.extents.specs.Reading.{runs_in}
use Rattle.extents.specs.Runs.{sector_by}
use Rattle.directory.specs.Listing.{by_stamp}
use Rattle.directory.specs.Reading.{records_in}
use Rattle.directory.specs.Records.{Record}

-- the form and the fields of the node's sector, the runs of its run sectors, its blocks, of which
-- one that has no sector is a hole, and a directory's names
pub record CachedNode : Type 0 where
  pub form : Form
  pub fields : Fields
  pub runs : List Run
  pub blocks : List (Option ℕ)
  pub names : List Record

-- the sector of a place of the node table
abbrev pub node_sector : (place : ℕ) → ℕ
node_sector place = 148 + place

abbrev pub block_count : Fields → ℕ
block_count fields = blocks_of fields.kind fields.size

-- Blocks

-- what a block holds: nothing if it is a hole
abbrev pub content_at : Image → Option ℕ → List ℕ
content_at image None = []
content_at image (Some sector) = image sector

-- byte k of these blocks of 4,096 bytes: 0 in a hole
unfoldable pub byte_at : Image → List (Option ℕ) → ℕ → ℕ
byte_at image blocks k =
    slice_index (content_at image (slice_index_or blocks (k / 4096) None)) (k % 4096)

unfoldable pub bytes_in : Image → List (Option ℕ) → (size : ℕ) → List ℕ
bytes_in image blocks size = map (byte_at image blocks) (range_with_len 0 size)

-- The cached node at a place

-- `left` runs, read from these run sectors, 500 each
abbrev pub runs_through : Image → (left : ℕ) → List ℕ → List Run
runs_through image left [] = []
runs_through image left (sector ∷ sectors) =
    runs_in (min 500 left) (image sector) ++ runs_through image (left - 500) sectors

-- `left` names, read from these blocks, 15 each
abbrev pub names_through : Image → (left : ℕ) → List (Option ℕ) → List Record
names_through image left [] = []
names_through image left (block ∷ blocks) =
    records_in (min 15 left) (content_at image block) ++ names_through image (left - 15) blocks

abbrev pub blocks_by : List Run → (count : ℕ) → List (Option ℕ)
blocks_by runs count = map (sector_by runs) (range_with_len 0 count)

abbrev pub names_from : Image → NodeKind → (size : ℕ) → List (Option ℕ) → List Record
names_from image kind.File size blocks = []
names_from image kind.Directory size blocks = names_through image size blocks

abbrev pub cached_by : Image → Form → Fields → List Run → List (Option ℕ) → CachedNode
cached_by image form fields runs blocks = record {
  form = form;
  fields = fields;
  runs = runs;
  blocks = blocks;
  names = names_from image fields.kind fields.size blocks;
}

abbrev pub cached_with : Image → Form → Fields → List Run → CachedNode
cached_with image form fields runs =
    cached_by image form fields runs (blocks_by runs (block_count fields))

abbrev pub cached_from : Image → Form → Fields → CachedNode
cached_from image form fields =
    cached_with image form fields (runs_through image fields.runs fields.run_sectors)

-- none if the place's sector begins with 0
unfoldable pub cached_in : Image → (place : ℕ) → Option CachedNode
cached_in image place =
    if slice_index (image (node_sector place)) 0 == 0 then None
    else Some (cached_from image (form_in (image (node_sector place)))
    (fields_in (image (node_sector place))))

-- the cached nodes of a table with `nodes` places
unfoldable pub cached_nodes_in : (nodes : ℕ) → Image → List (Option CachedNode)
cached_nodes_in nodes image = map (cached_in image) (range_with_len 0 nodes)

-- The tree

abbrev pub content_of : Image → NodeKind → CachedNode → Content
content_of image kind.File cached = File (bytes_in image cached.blocks cached.fields.size)
content_of image kind.Directory cached = Directory (by_stamp cached.names)

-- a node that shows these fields
abbrev pub node_with : Fields → Content → Node
node_with fields content = record {
  owner = fields.owner;
  group = fields.group;
  acl = fields.acl;
  change = fields.change;
  time_modify = fields.time_modify;
  content = content;
}

unfoldable pub node_of : Image → CachedNode → Node
node_of image cached = node_with cached.fields (content_of image cached.fields.kind cached)

-- the nodes of the cached nodes, by their numbers
abbrev pub tree_of : Image → List (Option CachedNode) → Tree
tree_of image [] = []
tree_of image (None ∷ cached_nodes) = tree_of image cached_nodes
tree_of image (Some cached ∷ cached_nodes) =
    with (tree_of image cached_nodes) cached.fields.number (node_of image cached)

abbrev pub tree_in : (nodes : ℕ) → Image → Tree
tree_in nodes image = tree_of image (cached_nodes_in nodes image)
