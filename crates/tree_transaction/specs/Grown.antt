-- Files of other sizes.
use Rattle.std.specs.Prelude.{◌≡◌, ◌≤◌, ℕ, List, Option, Some, None, max, slice_index_or}
use Rattle.extents.specs.Runs.{with_holes}
use Rattle.model_tree.specs.declared.node.NodeKind.TheVariants as kind
use Rattle.model_tree.specs.Trees.Charge.{blocks_of}
use Rattle.layout.specs.CachedNodes.{CachedNode}

-- a file of another size, and one that reaches at least to an end

abbrev pub sized : CachedNode → (size : ℕ) → CachedNode
sized cached_node size = record cached_node { fields = record cached_node.fields { size = size } }

abbrev pub reaching : (end : ℕ) → CachedNode → CachedNode
reaching end cached_node = sized cached_node (max cached_node.fields.size end)

-- how many blocks such a file has, and the file with these blocks

abbrev pub blocks_to : (end : ℕ) → CachedNode → ℕ
blocks_to end cached_node = blocks_of kind.File (max cached_node.fields.size end)

abbrev pub grown : CachedNode → (end : ℕ) → CachedNode
grown cached_node end = record {
  form = cached_node.form;
  fields = record cached_node.fields { size = max cached_node.fields.size end };
  runs = cached_node.runs;
  blocks = with_holes cached_node.blocks (blocks_to end cached_node);
  names = cached_node.names;
}

-- a file of at most 16,777,216 bytes is at a place, and `end` is no larger
pub record CanWrite (cached_nodes : List (Option CachedNode)) (place end : ℕ) : Type 0 where
  pub cached : CachedNode
  pub there : slice_index_or cached_nodes place None ≡ Some cached
  pub file : cached.fields.kind ≡ kind.File
  pub few : cached.fields.size ≤ 16777216
  pub low : end ≤ 16777216

-- a file that is no longer than this is at a place
pub record CanGrow (cached_nodes : List (Option CachedNode)) (place size : ℕ) : Type 0 where
  pub cached : CachedNode
  pub there : slice_index_or cached_nodes place None ≡ Some cached
  pub file : cached.fields.kind ≡ kind.File
  pub longer : cached.fields.size ≤ size
  pub few : size ≤ 16777216

-- a file that is no shorter than this is at a place
pub record CanCut (cached_nodes : List (Option CachedNode)) (place size : ℕ) : Type 0 where
  pub cached : CachedNode
  pub there : slice_index_or cached_nodes place None ≡ Some cached
  pub file : cached.fields.kind ≡ kind.File
  pub shorter : size ≤ cached.fields.size
  pub few : cached.fields.size ≤ 16777216
