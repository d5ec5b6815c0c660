-- The laws of cached nodes.
use Rattle.std.specs.Prelude.{◌≡◌, ◌≢◌, ◌<◌, ℕ, List, Option, Some, None, length, slice_index_or}
use Rattle.disk.specs.Moments.{Image}
use Rattle.model_tree.specs.Trees.Keyed.{at}
use Rattle.model_tree.specs.Trees.Tree.{Tree}
use Rattle.layout.specs.CachedNodes.{CachedNode, tree_of, cached_in, cached_nodes_in, node_sector, node_of}
use Rattle.layout.specs.Laid.{AreLaid, HoldsPlace, HoldsCached}
use Rattle.layout.specs.Marks.{namings_of}
use Rattle.layout.specs.Stands.{Version, IsLaid, TreeStands, Kept, StandsAs}

-- A cached node that is held is the one that is read. So a place that holds a cached node holds the
-- one that is read, and cached nodes that are laid are those that are read: a search for a tree
-- need only look at these.

abbrev pub CachedReadsBack : Type 0
CachedReadsBack =
    (image : Image) (place : ℕ) (cached : Option CachedNode) → HoldsPlace image place cached
    → cached_in image place ≡ cached

abbrev pub CachedNodesReadBack : Type 0
CachedNodesReadBack = (image : Image) (nodes : ℕ) (cached_nodes : List (Option CachedNode))
    → length cached_nodes ≡ nodes
    → ((place : ℕ) → place < nodes
    → HoldsPlace image place (slice_index_or cached_nodes place None))
    → cached_nodes_in nodes image ≡ cached_nodes

abbrev pub OnlyCached : Type 0
OnlyCached = (image : Image) (place : ℕ) (cached : Option CachedNode)
    → HoldsPlace image place cached
    → HoldsPlace image place (cached_in image place)

abbrev pub OnlyCachedNodes : Type 0
OnlyCachedNodes = (version : Version) (size nodes : ℕ) (image : Image)
    (cached_nodes : List (Option CachedNode))
    → IsLaid version size nodes image cached_nodes
    → IsLaid version size nodes image (cached_nodes_in nodes image)

-- One image represents one tree, of one size and one restart count, whatever the version
pub record SameVolume (size other_size nodes other_nodes run other_run : ℕ)
    (tree other : Tree) : Type 0 where
  pub tree_is : tree ≡ other
  pub size_is : size ≡ other_size
  pub nodes_are : nodes ≡ other_nodes
  pub run_is : run ≡ other_run

abbrev pub OneTree : Type 0
OneTree =
    (a b : Version) (size other_size nodes other_nodes run other_run : ℕ) (image : Image)
    (tree other : Tree)
    → TreeStands a size nodes image run tree
    → TreeStands b other_size other_nodes image other_run other
    → SameVolume size other_size nodes other_nodes run other_run tree other

-- and for the same seats beside it
pub record SameKept (size other_size nodes other_nodes run other_run : ℕ)
    (kept other : Kept) : Type 0 where
  pub kept_is : kept ≡ other
  pub same : SameVolume size other_size nodes other_nodes run other_run kept.tree other.tree

abbrev pub OneKept : Type 0
OneKept =
    (size other_size nodes other_nodes run other_run : ℕ) (image : Image) (kept other : Kept)
    → StandsAs size nodes image run kept → StandsAs other_size other_nodes image other_run other
    → SameKept size other_size nodes other_nodes run other_run kept other

-- that an image represents a tree has at most one proof
abbrev pub OneProof : Type 0
OneProof = (version : Version) (size nodes : ℕ) (image : Image) (run : ℕ) (tree : Tree)
    (a b : TreeStands version size nodes image run tree) → a ≡ b

-- If what a cached node names is kept, the cached node is still held, and is the same node

abbrev pub AreKept : Image → Image → Option CachedNode → Type 0
AreKept old new cached = (n : ℕ) → 0 < namings_of n cached → new n ≡ old n

pub record KeepsCached (old new : Image) (place : ℕ) (cached : CachedNode) : Type 0 where
  pub held : HoldsCached old place cached → HoldsCached new place cached
  pub node : node_of new cached ≡ node_of old cached

abbrev pub Frame : Type 0
Frame =
    (old new : Image) (place : ℕ) (cached : CachedNode)
    → new (node_sector place) ≡ old (node_sector place)
    → AreKept old new (Some cached) → KeepsCached old new place cached

-- The node of the tree with a number is that of the cached node with this number, and there is none
-- if no cached node has it
pub record FindsCached (image : Image) (cached_nodes : List (Option CachedNode)) (number : ℕ)
    : Type 0 where
  pub found : (place : ℕ) (cached : CachedNode) → slice_index_or cached_nodes place None
      ≡ Some cached
      → cached.fields.number ≡ number
      → at number (tree_of image cached_nodes) ≡ Some (node_of image cached)
  pub none :
      ((place : ℕ) (cached : CachedNode) → slice_index_or cached_nodes place None ≡ Some cached
      → cached.fields.number ≢ number)
      → at number (tree_of image cached_nodes) ≡ None

abbrev pub EachAnswer : Type 0
EachAnswer =
    (nodes : ℕ) (image : Image) (mark : ℕ → ℕ) (cached_nodes : List (Option CachedNode))
    → AreLaid nodes image mark cached_nodes
    → (number : ℕ) → FindsCached image cached_nodes number
