-- What the sectors of a volume hold for its nodes, byte by byte.
use Rattle.std.specs.Prelude.{◌≡◌, ◌≢◌, ◌≤◌, ◌<◌, ◌+◌, ◌*◌, ℕ, List, [], Option, Some, None, length, take, drop, slice_index_or}
use Rattle.std.specs.List.{AllByRecursion}
use Rattle.disk.specs.Moments.{Image}
use Rattle.disk.specs.Calls.{zero_sector}
use Rattle.model_tree.specs.declared.node.NodeKind.{NodeKind}
use Rattle.model_tree.specs.declared.node.NodeKind.TheVariants as kind
use Rattle.inode.specs.Fields.{IsInode}
use Rattle.inode.specs.Encoding.{inode_sector}
use Rattle.extents.specs.declared.run.Run.{Run}
use Rattle.extents.specs.Runs.{AreRunsOf}
use Rattle.extents.specs.Sector.{run_sector, IsRun}
use Rattle.directory.specs.Records.{Record, IsDirectory, NamesStamped}
use Rattle.directory.specs.Encoding.{directory_sector}
use Rattle.layout.specs.CachedNodes.{CachedNode, node_sector, block_count, content_at, byte_at}
use Rattle.layout.specs.Marks.{named}

-- Run sectors: 500 runs each, so all but the last are full

abbrev pub runs_of_sector : ℕ → List Run → List Run
runs_of_sector i runs = take 500 (drop (500 * i) runs)

abbrev pub AreRunSectors : Image → List ℕ → List Run → Type 0
AreRunSectors image sectors runs =
    (i : ℕ) → i < length sectors
    → image (slice_index_or sectors i 0) ≡ run_sector (runs_of_sector i runs)

-- Content

-- a file's bytes past its size are zero
pub record HoldsBytes (image : Image) (cached : CachedNode) : Type 0 where
  pub unnamed : cached.names ≡ []
  pub tail : (k : ℕ) → cached.fields.size ≤ k → byte_at image cached.blocks k ≡ 0

-- each block is the sector of its names, 15 each: so none is a hole
abbrev pub names_of_block : ℕ → List Record → List Record
names_of_block i names = take 15 (drop (15 * i) names)

abbrev pub AreEncoded : Image → List (Option ℕ) → List Record → Type 0
AreEncoded image blocks names = (i : ℕ) → i < length blocks
    → content_at image (slice_index_or blocks i None) ≡ directory_sector (names_of_block i names)

pub record HoldsNames (image : Image) (cached : CachedNode) : Type 0 where
  pub count : length cached.names ≡ cached.fields.size
  pub names : IsDirectory cached.names
  pub stamped : NamesStamped cached.names
  pub encoded : AreEncoded image cached.blocks cached.names

abbrev pub HoldsContent : Image → NodeKind → CachedNode → Type 0
HoldsContent image kind.File cached = HoldsBytes image cached
HoldsContent image kind.Directory cached = HoldsNames image cached

-- A place of the node table

-- the node's sector and its run sectors, and the runs that encode its blocks
pub record HoldsNode (image : Image) (place : ℕ) (cached : CachedNode) : Type 0 where
  pub fits : IsInode cached.form cached.fields
  pub number : 0 < cached.fields.number
  pub sector : image (node_sector place) ≡ inode_sector cached.form cached.fields
  pub each_run : AllByRecursion IsRun cached.runs
  pub run_count : length cached.runs ≡ cached.fields.runs
  pub run_sectors : AreRunSectors image cached.fields.run_sectors cached.runs
  pub runs : AreRunsOf cached.runs cached.blocks
  pub blocks : length cached.blocks ≡ block_count cached.fields

pub record HoldsCached (image : Image) (place : ℕ) (cached : CachedNode) : Type 0 where
  pub node : HoldsNode image place cached
  pub content : HoldsContent image cached.fields.kind cached

-- a free place is zero
abbrev pub HoldsPlace : Image → (place : ℕ) → Option CachedNode → Type 0
HoldsPlace image place None = image (node_sector place) ≡ zero_sector
HoldsPlace image place (Some cached) = HoldsCached image place cached

-- The node table

-- no two nodes have one number
abbrev pub AreNumbered : List (Option CachedNode) → Type 0
AreNumbered cached_nodes =
    (i j : ℕ) (a b : CachedNode) → i ≢ j → slice_index_or cached_nodes i None ≡ Some a
    → slice_index_or cached_nodes j None ≡ Some b
    → a.fields.number ≢ b.fields.number

-- The places hold these cached nodes, and each sector is marked as often as they name it: so none
-- is named twice, none outside the data region is named, and only named sectors are marked. Where
-- the marks are kept is left open: a change has them in memory.
pub record AreLaid (nodes : ℕ) (image : Image) (mark : ℕ → ℕ)
    (cached_nodes : List (Option CachedNode))
    : Type
    0 where
  pub count : length cached_nodes ≡ nodes
  pub held : (place : ℕ) → place < nodes
      → HoldsPlace image place (slice_index_or cached_nodes place None)
  pub apart : AreNumbered cached_nodes
  pub marks : (n : ℕ) → named n cached_nodes ≡ mark n
  pub behind : (n : ℕ) → 0 < mark n → 148 + nodes ≤ n
  pub once : (n : ℕ) → mark n ≤ 1
